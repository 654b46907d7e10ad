-- The answer to slicing, by the way that the code takes to it: the header refuses, a record refuses, the buffer is too short, the slice is
-- written.
use Prim.Native.Nat.{ℕ, ◌+◌, ◌≤◌, ◌<◌}
use native.Mathlib.Omega.{arith}
use mathlib.Core.Path.{◌≡◌, sym, ap, ap₂, ◌∙◌}
use mathlib.Core.Bool.{Bool, true, false, cond}
use mathlib.Core.List.{List, ◌++◌}
use lib.ListN.{length}
use lib.Count.{ones}
use lib.Dec.{leb}
use borrow.Author.Tests.{le-leb, lt-leb}
use Rattle.expr.specs.Lists.{All}
use Rattle.expr.specs.Number.{Byte}
use Rattle.file.specs.File.{Head, header_size, header_inputs, head_of, header, Accepted, Refused, records_bytes, encode}
use Rattle.file.proofs.EncodeLaws.{encode-length}
use Rattle.file.specs.Shown.{is_accepted, listed}
use Rattle.trace.specs.Trace.{Stmt, read_trace, stmt_bytes, encode_trace, reads_trace}
use Rattle.write.specs.Splice.{Wrote, over}
use Rattle.write.specs.SpliceLaws.{splice-over, ◌then◌, wrote_as, wrote-length}
use Rattle.slice.specs.declared.Answer.{Answer}
use Rattle.slice.specs.declared.back.Kept.{Kept}
use Rattle.slice.specs.Slice.{slice}
use Rattle.slice.proofs.SliceLaws.{slice_smaller}
use Rattle.slice.specs.Mask.{mask_of, input_mask}
use Rattle.slice.specs.MaskLaws.{mask-same}
use Rattle.slice.specs.Answer.{refusal, slice_of, answered, slice_answer, numbers, SliceWritten}
use Rattle.slice.specs.Shown.{kept, WalkedBack}
use Rattle.slice.proofs.Walk.{records-small}

-- ---- a refusal leaves the buffer

module _ (s out : List ℕ) where
  refused_as : (r at : ℕ) (q : Answer) → slice_answer s (length out) ≡ refusal r at → q ≡ numbers (refusal r at) → SliceWritten s out out q
  refused_as r at q e h = record { answer = h ∙ sym (ap numbers e); buffer = sym (ap (λ a. over a.bytes out) e) }

  pub trace_refuses : (r at : ℕ) → read_trace s ≡ Refused r at → (q : Answer) → q ≡ numbers (refusal r at) → SliceWritten s out out q
  unfolding slice_answer
  trace_refuses r at e q = refused_as r at q (ap (answered (length out)) e)

-- ---- the slice is found

module _ (s : List ℕ) (is : read_trace s ≡ Accepted (head_of s) (listed (read_trace s))) (flags : List Bool) (needed : ℕ → Bool) (k : Kept)
    (w : WalkedBack (listed (read_trace s)) flags needed k) where
  abbrev head : Head
  head = head_of s

  abbrev ts : List Stmt
  ts = listed (read_trace s)

  pub size_small : All Byte s → k.size < 65536
  size_small o = omega (arith, w.size, slice_smaller ts, records-small s o (ap is_accepted is))

  -- with the code's own size of the header
  module _ {size : ℕ} (q : size ≡ header_size s) (out : List ℕ) where
    total : length (encode_trace head (slice ts)) ≡ size + k.size
    total = encode-length stmt_bytes head (slice ts) ∙ ap₂ (λ m n. m + n) (sym q) (sym w.size)

    sliced : (b : Bool) → leb (length (encode_trace head (slice ts))) (length out) ≡ b
        → slice_answer s (length out) ≡ cond b (slice_of head (slice ts)) (refusal 10 0)
    unfolding slice_answer
    sliced b e = ap (answered (length out)) is ∙ ap (λ b. cond b (slice_of head (slice ts)) (refusal 10 0)) e

    pub no_room : length out < size + k.size → (r : Answer) → r ≡ numbers (refusal 10 0) → SliceWritten s out out r
    no_room h r = refused_as s out 10 0 r (sliced false (lt-leb (length (encode_trace head (slice ts))) (length out)
        (omega (arith, total))))

    module _ (h : size + k.size ≤ length out) {p : List ℕ} {to : ℕ} (u : Wrote out 0 (header (head_of s) (size + k.size) k.count) p to)
        (front : to ≡ header_size s) where
      pub records-room : to + length (records_bytes stmt_bytes (kept flags (listed (read_trace s)))) ≤ length p
      records-room = omega (arith, front, q, wrote-length u, w.size, ap (λ us. length (records_bytes stmt_bytes us)) w.those)

      bytes : header head (size + k.size) k.count ++ records_bytes stmt_bytes (kept flags ts) ≡ encode_trace head (slice ts)
      unfolding encode
      bytes =
          ap₂ (λ m n. header head (m + n) k.count ++ records_bytes stmt_bytes (kept flags ts)) q w.size
          ∙ ap₂ (λ n us. header head (header_size s + length (records_bytes stmt_bytes (slice ts))) n ++ records_bytes stmt_bytes us)
          w.count w.those

      -- and number of inputs
      pub slice_written : {out' : List ℕ} {end : ℕ} → Wrote p to (records_bytes stmt_bytes (kept flags (listed (read_trace s)))) out' end
          → {S : ℕ} → S ≡ header_inputs s → (mask : ℕ) → mask ≡ mask_of S needed
          → SliceWritten s out out' (record { reply = 0; offset = 0; length = size + k.size; mask = mask; inputs = ones mask })
      slice_written v i mask m =
          let a = sliced true (le-leb (length (encode_trace head (slice ts))) (length out) (omega (arith, total))) in
          let reads : mask ≡ input_mask (header_inputs s) (slice ts)
          = m ∙ ap (λ S. mask_of S needed) i
          ∙ mask-same (header_inputs s) needed (λ x. reads_trace x (slice ts)) (λ x l. w.reads x) in
          record {
            answer =
                ap₂ {C = Answer} (λ n mask. record { reply = 0; offset = 0; length = n; mask = mask; inputs = ones mask }) (sym total)
                reads ∙ sym (ap numbers a);
            buffer =
                (wrote_as bytes (u then v)).buffer ∙ splice-over (encode_trace head (slice ts)) out (omega (arith, total))
                ∙ sym (ap (λ a. over a.bytes out) a);
          }
