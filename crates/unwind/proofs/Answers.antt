-- The whole trace as the code writes it, part by part; and the answer, by the way that the code takes to it.
use Prim.Native.Nat.{ℕ, suc, ◌+◌, ◌*◌, ◌≤◌, ◌<◌}
use native.Mathlib.Omega.{arith}
use native.Mathlib.Numerals.{add-one}
use mathlib.Core.Path.{◌≡◌, refl, sym, ap, ap₂, ◌∙◌, fun_ext}
use mathlib.Core.Bool.{true, cond}
use mathlib.Core.List.{List, ◌++◌}
use lib.ListN.{length}
use lib.Dec.{leb}
use borrow.Author.Tests.{le-leb, lt-leb}
use Rattle.file.specs.Outcome.{Bound}
use Rattle.file.specs.File.{Head, head_size, Accepted, Refused, header, record_bytes, records_bytes, encode}
use Rattle.file.proofs.EncodeLaws.{encode-length}
use Rattle.table.specs.Table.{Instr, read_table}
use Rattle.trace.specs.Trace.{Stmt, stmt_bytes, trace_version, trace_head, encode_trace}
use Rattle.write.specs.Splice.{Wrote, over}
use Rattle.write.specs.SpliceLaws.{◌then◌, wrote_as, splice-over}
use Rattle.unwind.specs.Places.{places}
use Rattle.unwind.specs.Unwind.{at_first, opening, unwind}
use Rattle.unwind.proofs.UnwindLaws.{unwind-count}
use Rattle.unwind.specs.Size.{trace_size}
use Rattle.unwind.proofs.SizeLaws.{unwind-size}
use Rattle.write.specs.declared.Written.{Written}
use Rattle.unwind.specs.Answer.{Traced, refusal, trace_of, answered, trace_answer, numbers, TraceWritten}
use Rattle.unwind.specs.Shown.{current_of, newest_of}
use Rattle.unwind.proofs.Copies.{bytes_at}

-- ---- the whole trace

module _ (S : ℕ) (is : List Instr) (K : ℕ) where
  abbrev ts : List Stmt
  ts = unwind Bound S is K

  records-size : head_size trace_version + length (records_bytes stmt_bytes (unwind Bound S is K)) ≡ trace_size is K
  records-size = sym (encode-length stmt_bytes (trace_head S) (unwind Bound S is K)) ∙ unwind-size Bound S is K

  pub count-is : (n : ℕ) → length is ≡ n → length (unwind Bound S is K) ≡ 1 + (K + 1) * (n + 1)
  count-is n q = unwind-count Bound S is K ∙ ap₂ (λ a b. 1 + a * b) (sym (add-one K)) (ap suc q ∙ sym (add-one n))

  module _ (names : List ℕ) (named : (s : ℕ) → current_of names s ≡ s) where
    first : newest_of names S (S + 1) ≡ at_first S
    first u = record { current = fun_ext named u; control = S; next = add-one S u }

    abbrev rest : List ℕ
    rest = bytes_at (newest_of names S (S + 1)) (places is K)

    records_are : record_bytes stmt_bytes (opening S) ++ rest ≡ records_bytes stmt_bytes (unwind Bound S is K)
    unfolding unwind
    records_are = ap (λ c. record_bytes stmt_bytes (opening S) ++ bytes_at c (places is K)) first

    -- what is left behind the header and the opening
    pub rest-size : head_size trace_version + (12 + length (bytes_at (newest_of names S (S + 1)) (places is K))) ≡ trace_size is K
    rest-size = omega (arith, ap length records_are, records-size)

    -- with the table's own number of inputs
    pub all-written : (n total count : ℕ) → length is ≡ n → total ≡ trace_size is K → count ≡ 1 + (K + 1) * (n + 1)
        → {out p q out' : List ℕ} {a b to : ℕ} → total ≤ length out
        → Wrote out 0 (header (trace_head S) total count) p a → Wrote p a (record_bytes stmt_bytes (opening S)) q b → Wrote q b rest out' to
        → {T : ℕ} → S ≡ T → out' ≡ over (encode_trace (trace_head T) (unwind Bound T is K)) out
    unfolding encode
    all-written n total count l t c {out} fits v w x e =
        let head : header (trace_head S) total count
        ≡ header (trace_head S) (head_size trace_version + length (records_bytes stmt_bytes ts)) (length ts)
        = ap₂ (header (trace_head S)) (t ∙ sym records-size) (c ∙ sym (count-is n l)) in
        let bytes : header (trace_head S) total count ++ (record_bytes stmt_bytes (opening S) ++ rest) ≡ encode_trace (trace_head S) ts
        = ap₂ (λ h r. h ++ r) head records_are in
        let all : Wrote out 0 (encode_trace (trace_head S) ts) _ _ = wrote_as bytes (v then w then x) in
        all.buffer ∙ splice-over (encode_trace (trace_head S) ts) out (omega (arith, t, unwind-size Bound S is K))
        ∙ ap (λ T. over (encode_trace (trace_head T) (unwind Bound T is K)) out) e

-- ---- the answer

module _ (s out : List ℕ) (K : ℕ) where
  answers : (q : Traced) → trace_answer s K (length out) ≡ q → {out' : List ℕ} {r : Written} → r ≡ numbers q → out' ≡ over q.bytes out
      → TraceWritten s K out out' r
  answers q e k b = record { answer = k ∙ ap numbers (sym e); buffer = b ∙ ap (λ q. over q.bytes out) (sym e) }

  pub table_refuses : (reply offset : ℕ) → read_table s ≡ Refused reply offset → {r : Written} → r ≡ numbers (refusal reply offset)
      → TraceWritten s K out out r
  unfolding trace_answer
  table_refuses reply offset e k = answers (refusal reply offset) (ap (answered K (length out)) e) k refl

  module _ (head : Head) (is : List Instr) (e : read_table s ≡ Accepted head is) where
    abbrev S : ℕ
    S = head.inputs

    opened : trace_answer s K (length out) ≡ cond (leb K 255) (trace_of (length out) S (unwind Bound S is K)) (refusal 8 0)
    unfolding trace_answer
    opened = ap (answered K (length out)) e

    pub bound_refuses : 255 < K → {r : Written} → r ≡ numbers (refusal 8 0) → TraceWritten s K out out r
    bound_refuses h k = answers (refusal 8 0) (opened ∙ rw (lt-leb K 255 h)) k refl

    module _ (few : K ≤ 255) (n : ℕ) (l : length is ≡ n) where
      abbrev count : ℕ
      count = 1 + (K + 1) * (n + 1)

      bounded : trace_answer s K (length out) ≡ trace_of (length out) S (unwind Bound S is K)
      bounded = opened ∙ ap (λ b. cond b (trace_of (length out) S (unwind Bound S is K)) (refusal 8 0)) (le-leb K 255 few)

      abbrev bytes : List ℕ
      bytes = encode_trace (trace_head S) (unwind Bound S is K)

      size_is : (total : ℕ) → total ≡ trace_size is K → length (encode_trace (trace_head S) (unwind Bound S is K)) ≡ total
      size_is total t = unwind-size Bound S is K ∙ sym t

      pub count_refuses : 4096 < 1 + (K + 1) * (n + 1) → {r : Written} → r ≡ numbers (refusal 9 0) → TraceWritten s K out out r
      count_refuses h k =
          answers (refusal 9 0) (bounded ∙ rw (lt-leb (length (unwind Bound S is K)) 4096 (omega (arith, count-is S is K n l)))) k refl

      module _ (fit : 1 + (K + 1) * (n + 1) ≤ 4096) (total : ℕ) (t : total ≡ trace_size is K) where
        counted : leb (length (unwind Bound S is K)) 4096 ≡ true
        counted = le-leb (length (unwind Bound S is K)) 4096 (omega (arith, count-is S is K n l))

        pub size_refuses : 65535 < total → {r : Written} → r ≡ numbers (refusal 9 0) → TraceWritten s K out out r
        size_refuses h k =
            answers (refusal 9 0) (bounded ∙ rw
            (counted, lt-leb (length (encode_trace (trace_head S) (unwind Bound S is K))) 65535 (omega (arith, size_is total t)))) k refl

        module _ (small : total ≤ 65535) where
          sized : leb (length (encode_trace (trace_head S) (unwind Bound S is K))) 65535 ≡ true
          sized = le-leb (length (encode_trace (trace_head S) (unwind Bound S is K))) 65535 (omega (arith, size_is total t))

          pub room_refuses : length out < total → {r : Written} → r ≡ numbers (refusal 10 0) → TraceWritten s K out out r
          room_refuses h k =
              answers (refusal 10 0) (bounded
              ∙ rw (
                counted,
                sized,
                lt-leb (length (encode_trace (trace_head S) (unwind Bound S is K))) (length out)
                    (omega (arith, size_is total t)),
              )) k refl

          pub trace_written : total ≤ length out → {out' : List ℕ} → out' ≡ over (encode_trace (trace_head S) (unwind Bound S is K)) out
              → TraceWritten s K out out' (record { reply = 0; offset = 0; length = total })
          trace_written h b =
              answers (record { reply = 0; offset = 0; bytes = encode_trace (trace_head S) (unwind Bound S is K) })
              (bounded ∙ rw (
                counted,
                sized,
                le-leb (length (encode_trace (trace_head S) (unwind Bound S is K))) (length out)
                    (omega (arith, size_is total t)),
              ))
              (ap {B = Written} (λ m. record { reply = 0; offset = 0; length = m }) (sym (size_is total t))) b
