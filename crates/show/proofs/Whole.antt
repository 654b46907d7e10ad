-- The printer's two buffers hold whole results. A trace that was written is accepted, so its slice fits where the trace fits, and is
-- accepted too; and the first bytes of a buffer, as many as were written, are those that were written.
use Rattle.std.proofs.Common.{ℕ, ◌≤◌, ◌<◌, arith, ◌≡◌, refl, sym, ap, ◌∙◌, subst, Bool, true, false, cond, List, [], ◌∷◌, length, take}
use Rattle.std.proofs.Common.{drop, get_or, length-append, eq-eqb, ne_eqb, le-leb}
use lib.Seq.{take-append_seam}
use lib.Dec.{leb}
use borrow.Author.Tests.{lt-leb}
use Rattle.expr.specs.Lists.{All}
use Rattle.expr.specs.Number.{Byte}
use Rattle.file.specs.File.{Input, Accepted, Refused}
use Rattle.file.specs.Shown.{is_accepted}
use Rattle.trace.specs.Trace.{Stmt, read_trace}
use Rattle.trace.specs.EncodeLaws.{encode-read}
use Rattle.write.specs.Splice.{over, Wrote}
use Rattle.write.specs.SpliceLaws.{splice-over}
use Rattle.unwind.specs.Answer.{trace_answer}
use Rattle.unwind.proofs.AnswerLaws.{trace_written, trace_read}
use Rattle.slice.specs.Slice.{slice}
use Rattle.slice.proofs.SliceLaws.{slice_fits, slice-accepted, slice-done}
use Rattle.slice.specs.Answer.{slice_of, slice_answer}
use Rattle.show.specs.Text.{refusal_text, trace_text, sliced_text, traced_text, printed}
use Rattle.write.specs.declared.Written.{Written}
use Rattle.show.specs.Answer.{Shown, refusal, show_answer, numbers, SliceShown}
use Rattle.show.specs.Shown.{Fitted}

-- ---- a result in a buffer

-- the first n bytes of a buffer are a result
pub record First (n : ℕ) (buffer bs : List ℕ) : Type 0 where
  pub inside : n ≤ length buffer
  pub those : take n buffer ≡ bs
  pub many : n ≡ length (take n buffer)

-- the result is one that depends on the room that there is
pub first-bytes : (bs : (room : ℕ) → List ℕ) (out : List ℕ) {n : ℕ} {out' : List ℕ} → length out ≡ 65535 → out' ≡ over (bs (length out)) out
    → n ≡ length (bs (length out)) → First n out' (bs 65535)
first-bytes bs out {n} {out'} l e q =
    let a = bs (length out) in
    let t : take n out' ≡ a = ap (λ k. take k out') q ∙ ap (take (length a)) e ∙ take-append_seam a (drop (length a) out) in
    record {
      inside = omega (arith, ap length e, length-append a (drop (length a) out));
      those = t ∙ ap bs l;
      many = q ∙ sym (ap length t);
    }

-- ---- a trace, and its slice

-- the slice of an accepted trace is printed
pub record Kept (s : List ℕ) : Type 0 where
  pub accepted : is_accepted (read_trace (slice_answer s 65535).bytes) ≡ true
  pub text : trace_text (read_trace (slice_answer s 65535).bytes) ≡ sliced_text (slice_answer s 65535)

pub kept : (s : List ℕ) → All Byte s → is_accepted (read_trace s) ≡ true → length s ≤ 65535 → Kept s
kept s o h l = go (read_trace s) refl h
  where
    go : (i : Input Stmt) → read_trace s ≡ i → is_accepted i ≡ true → Kept s
    go (Refused r at) q h = absurd (let z : ◌≡◌ {A = ℕ} 0 1 = cc in omega arith)
    go (Accepted head ts) q h =
        let d : slice_answer s 65535 ≡ slice_of head (slice ts) = slice-done s head ts 65535 q
        (omega (arith, slice_fits head ts, ap length (encode-read s head ts o q))) in
        record {
          accepted = ap (λ a. is_accepted (read_trace a.bytes)) d ∙ ap is_accepted (slice-accepted s head ts o q);
          text = ap (λ a. trace_text (read_trace a.bytes)) d ∙ sym (ap sliced_text d);
        }

-- a trace that was written is accepted
pub traced : (b : List ℕ) (K room : ℕ) → All Byte b → (trace_answer b K room).reply ≡ 0
    → (is_accepted (read_trace (trace_answer b K room).bytes) ≡ true) × (length (trace_answer b K room).bytes ≤ 65535)
traced b K room o h =
    let w = trace_written b K room h in
    (ap is_accepted (trace_read b K w.0 w.1 _ o w.2), omega (arith, w.2.total, ap length w.2.bytes))

-- ---- the text, by the way that the code takes to it

module _ (s : List ℕ) (h : 0 < length s) where
  opened : (s : List ℕ) → 0 < length s → printed s ≡ traced_text (trace_answer (drop 1 s) (get_or s 0 0) 65535)
  unfolding printed
  opened [] h = absurd (omega arith)
  opened (K ∷ b) h = refl

  pub printed-refusal : ((trace_answer (drop 1 s) (get_or s 0 0) 65535).reply ≡ 0 → ⊥)
      → printed s ≡ refusal_text (trace_answer (drop 1 s) (get_or s 0 0) 65535).reply (trace_answer (drop 1 s) (get_or s 0 0) 65535).offset
  printed-refusal n =
      let t = trace_answer (drop 1 s) (get_or s 0 0) 65535 in
      opened s h ∙ ap (λ b. cond b (sliced_text (slice_answer t.bytes 65535)) (refusal_text t.reply t.offset)) (ne_eqb t.reply 0 n)

  pub printed-slice : (trace_answer (drop 1 s) (get_or s 0 0) 65535).reply ≡ 0
      → printed s ≡ sliced_text (slice_answer (trace_answer (drop 1 s) (get_or s 0 0) 65535).bytes 65535)
  printed-slice e =
      let t = trace_answer (drop 1 s) (get_or s 0 0) 65535 in
      opened s h ∙ ap (λ b. cond b (sliced_text (slice_answer t.bytes 65535)) (refusal_text t.reply t.offset)) (eq-eqb t.reply 0 e)

pub printed_none : (s : List ℕ) → length s ≡ 0 → printed s ≡ refusal_text 1 0
unfolding printed
printed_none [] h = refl
printed_none (K ∷ b) h = absurd (omega arith)

-- ---- the answer

-- a text that was measured by writing it into another buffer
module _ {text one one' : List ℕ} {size : ℕ} (m : Wrote one 0 text one' size) (out : List ℕ) where
  -- the answer, by the test of the room
  abbrev tested : Bool → Shown
  tested b = cond b (record { reply = 0; offset = 0; bytes = text }) (refusal 10 0)

  size_is : size ≡ length text
  size_is = m.next ∙ omega arith

  pub no_room : {r : Written} → length out < size → r ≡ numbers (refusal 10 0) → Fitted text out out r
  no_room {r} h e =
      let f : leb (length text) (length out) ≡ false = lt-leb (length text) (length out) (omega (arith, size_is)) in
      record { answer = e ∙ sym (ap (λ b. numbers (tested b)) f); buffer = sym (ap (λ b. over (tested b).bytes out) f) }

  pub written : {out' : List ℕ} {n : ℕ} → size ≤ length out → Wrote out 0 text out' n
      → Fitted text out out' (record { reply = 0; offset = 0; length = n })
  written {out'} {n} h w =
      let t : leb (length text) (length out) ≡ true = le-leb (length text) (length out) (omega (arith, size_is)) in
      let q : n ≡ length text = w.next ∙ omega arith in
      record {
        answer = ap (λ k. record { reply = 0; offset = 0; length = k }) q ∙ sym (ap (λ b. numbers (tested b)) t);
        buffer = w.buffer ∙ splice-over text out (omega (arith, size_is)) ∙ sym (ap (λ b. over (tested b).bytes out) t);
      }

pub fitted_as : {text other out out' : List ℕ} {r : Written} → text ≡ other → Fitted text out out' r → Fitted other out out' r
fitted_as {out = out} {out'} {r} e f = subst (λ t. Fitted t out out' r) e f

pub shown : {input out out' : List ℕ} {r : Written} → Fitted (printed input) out out' r → SliceShown input out out' r
unfolding show_answer
shown f = record { answer = f.answer; buffer = f.buffer }
