-- What is printed, said without the answers of the calls: a refusal's line, or the text of the slice of the unwound table. No room decides
-- it, its length is bounded, and the first 65,537 bytes of any input say all of it, so a program may stop reading there.
use Rattle.std.specs.Prelude.{ℕ, suc, ◌≤◌, ◌≡◌, Bool, ◌&&◌, List, [], ◌∷◌, length, take}
use Rattle.std.proofs.Common.{arith, sym, ◌∙◌, length-take-le, take_all, get_or-take}
use Rattle.std.proofs.Math.Decide.{dec_lt}
use Rattle.std.proofs.Math.Path.{refl, ap}
use Rattle.std.proofs.Math.Bool.{true, false, cond}
use Rattle.std.proofs.Math.Dec.{leb}
use borrow.Author.Tests.{ne_eqb, le-leb, lt-leb, leb-true}
use Rattle.expr.specs.Lists.{All, all_take, both_and}
use Rattle.expr.specs.Number.{Byte}
use Rattle.file.specs.Outcome.{Bound}
use Rattle.file.specs.File.{Head, header_version, Input, Accepted, Refused}
use Rattle.file.proofs.FileLaws.{file-refused}
use Rattle.file.proofs.ReadingLaws.{too_long}
use Rattle.table.specs.Table.{Instr, instrs, is_table, read_table}
use Rattle.table.specs.TableLaws.{IsTable, table-ok, table-refused_positive}
use Rattle.trace.specs.Trace.{Stmt, read_trace, trace_head, encode_trace}
use Rattle.trace.specs.TraceLaws.{trace_short}
use Rattle.trace.specs.EncodeLaws.{encode-read, room-written, trace_known}
use Rattle.unwind.specs.Unwind.{unwind}
use Rattle.unwind.proofs.UnwindLaws.{unwind-ok, unwind-accepted}
use Rattle.unwind.specs.Answer as Tracing
use Rattle.unwind.specs.Answer.{answered, trace_answer}
use Rattle.slice.specs.Slice.{slice}
use Rattle.slice.proofs.SliceLaws.{slice_fits, slice-read, slice-done}
use Rattle.slice.specs.Answer as Slicing
use Rattle.slice.specs.Answer.{slice_answer}
use Rattle.show.specs.Text.{refusal_text, slice_text, trace_text, sliced_text, traced_text, printed}

-- ---- what is printed of a table, by its reading

pub prints_refusal : (K : ℕ) (b : List ℕ) (reply offset : ℕ) → read_table b ≡ Refused reply offset
    → printed (K ∷ b) ≡ refusal_text reply offset
unfolding printed trace_answer
prints_refusal K b reply offset e =
    ap (λ x. traced_text (answered K 65535 x)) e
    ∙ ap (λ x. cond x (sliced_text (slice_answer [] 65535)) (refusal_text reply offset))
    (ne_eqb reply 0 (λ z. omega (arith, table-refused_positive b reply offset e)))

module _ (K : ℕ) (b : List ℕ) (head : Head) (is : List Instr) (accepted : read_table b ≡ Accepted head is) (bound : K ≤ 255) where
  abbrev S : ℕ
  S = head.inputs

  -- the trace's statements, and their bytes
  abbrev ts : List Stmt
  ts = unwind Bound S is K

  abbrev bytes : List ℕ
  bytes = encode_trace (trace_head S) ts

  -- by the tests for 9 and 10; no room above 65,535 decides
  traced : (room : ℕ) → 65535 ≤ room
      → trace_answer b K room ≡ cond (leb (length ts) 4096 && leb (length bytes) 65535) (record { reply = 0; offset = 0; bytes = bytes })
      (Tracing.refusal 9 0)
  unfolding trace_answer
  traced room h =
      ap (answered K room) accepted
      ∙ ap (λ x. cond x (Tracing.trace_of room S ts) (Tracing.refusal 8 0)) (le-leb K 255 bound)
      ∙ go (leb (length ts) 4096) (leb (length bytes) 65535) refl
    where
      go : (x y : Bool) → leb (length bytes) 65535 ≡ y
          → cond (x && y) (cond (leb (length bytes) room) (record { reply = 0; offset = 0; bytes = bytes }) (Tracing.refusal 10 0))
          (Tracing.refusal 9 0)
          ≡ cond (x && y) (record { reply = 0; offset = 0; bytes = bytes }) (Tracing.refusal 9 0)
      go true true e =
          ap (λ z. cond z (record { reply = 0; offset = 0; bytes = bytes }) (Tracing.refusal 10 0))
          (le-leb (length bytes) room (omega (arith, leb-true (length bytes) 65535 e)))
      go true false e = refl
      go false y e = refl

  -- a trace over its limits is refused 9
  pub prints_nine : ((length (unwind Bound head.inputs is K) ≤ 4096)
      × (length (encode_trace (trace_head head.inputs) (unwind Bound head.inputs is K)) ≤ 65535) → ⊥)
      → printed (K ∷ b) ≡ refusal_text 9 0
  unfolding printed
  prints_nine n =
      ap traced_text
      (traced 65535 (omega arith)
      ∙ ap (λ x. cond x (record { reply = 0; offset = 0; bytes = bytes }) (Tracing.refusal 9 0))
      (over-limit (leb (length ts) 4096) refl (leb (length bytes) 65535) refl))
    where
      over-limit : (x : Bool) → leb (length ts) 4096 ≡ x → (y : Bool) → leb (length bytes) 65535 ≡ y → (x && y) ≡ false
      over-limit true e true f = absurd (n (leb-true (length ts) 4096 e, leb-true (length bytes) 65535 f))
      over-limit true e false f = refl
      over-limit false e y f = refl

  module _ (o : All Byte b) (count : length (unwind Bound head.inputs is K) ≤ 4096)
      (total : length (encode_trace (trace_head head.inputs) (unwind Bound head.inputs is K)) ≤ 65535) where
    table : IsTable b S is
    table = table-ok b head is o accepted

    -- else the text is that of the slice of the unwound table
    pub prints_slice : printed (K ∷ b) ≡ slice_text head.inputs (slice (unwind Bound head.inputs is K))
    unfolding printed
    prints_slice =
        ap traced_text
        (traced 65535 (omega arith)
        ∙ ap (λ x. cond x (record { reply = 0; offset = 0; bytes = bytes }) (Tracing.refusal 9 0))
        (both_and (leb (length ts) 4096) (leb (length bytes) 65535) (le-leb (length ts) 4096 count) (le-leb (length bytes) 65535 total)))
        ∙ ap sliced_text
        (slice-done bytes (trace_head S) ts 65535 (unwind-accepted S is K table.ok table.inputs count total)
        (omega (arith, slice_fits (trace_head S) ts)))
        ∙ ap trace_text (slice-read (trace_head S) ts (trace_known S) (omega (arith, table.inputs, room-written)) count total
        (unwind-ok S is K table.ok table.inputs count))

-- ---- no room decides

-- the text is that of a trace and a slice in 65,535 bytes; more room would change neither
pub trace_room : (b : List ℕ) (K room : ℕ) → 65535 ≤ room → trace_answer b K room ≡ trace_answer b K 65535
unfolding trace_answer
trace_room b K room h = go (read_table b) refl
  where
    go : (x : Input Instr) → read_table b ≡ x → answered K room x ≡ answered K 65535 x
    go (Refused r at) e = refl
    go (Accepted head is) e =
        let S = head.inputs in
        elim (dec_lt 255 K) [
          | yes l ↦
              ap (λ x. cond x (Tracing.trace_of room S (unwind Bound S is K)) (Tracing.refusal 8 0)) (lt-leb K 255 l)
              ∙ sym (ap (λ x. cond x (Tracing.trace_of 65535 S (unwind Bound S is K)) (Tracing.refusal 8 0)) (lt-leb K 255 l))
          | no l ↦
              sym (ap (answered K room) e) ∙ traced K b head is e (omega arith) room h
              ∙ sym (traced K b head is e (omega arith) 65535 (omega arith)) ∙ ap (answered K 65535) e
        ]

pub slice-room : (t : List ℕ) (room : ℕ) → All Byte t → 65535 ≤ room → slice_answer t room ≡ slice_answer t 65535
unfolding slice_answer
slice-room t room o h = go (read_trace t) refl
  where
    go : (x : Input Stmt) → read_trace t ≡ x → Slicing.answered room x ≡ Slicing.answered 65535 x
    go (Refused r at) e = refl
    go (Accepted head us) e =
        let small : length (encode_trace head (slice us)) ≤ 65535 =
        omega (arith, slice_fits head us, ap length (encode-read t head us o e), trace_short t head us o e) in
        ap (λ x. cond x (Slicing.slice_of head (slice us)) (Slicing.refusal 10 0))
        (le-leb (length (encode_trace head (slice us))) room (omega arith))
        ∙ sym (ap (λ x. cond x (Slicing.slice_of head (slice us)) (Slicing.refusal 10 0))
        (le-leb (length (encode_trace head (slice us))) 65535 small))

-- ---- input that is too long for any table

-- the length field has two bytes: over 65,535 bytes are refused 2 if their version is wrong, else 3
pub table_too_long : (b : List ℕ) → All Byte b → 65536 ≤ length b → read_table b ≡ Refused (cond (is_table (header_version b)) 3 2) 0
unfolding read_table
table_too_long b o h =
    file-refused is_table 1024 instrs b (cond (is_table (header_version b)) 3 2) (too_long is_table 1024 b o h)
    (not_zero (is_table (header_version b)))
  where
    not_zero : (x : Bool) → ◌≡◌ {A = ℕ} (cond x 3 2) 0 → ⊥
    not_zero true e = omega arith
    not_zero false e = omega arith

table-cut : (n K : ℕ) (b : List ℕ) → 65536 ≤ n → All Byte b → trace_answer (take n b) K 65535 ≡ trace_answer b K 65535
unfolding trace_answer
table-cut n K b l o =
    elim (dec_lt n (length b)) [
      | yes h ↦
          ap (answered K 65535)
          (table_too_long (take n b) (all_take Byte n b o) (omega (arith, length-take-le n b (omega arith)))
          ∙ ap (λ v. Refused (cond (is_table v) 3 2) 0) (get_or-take n b 0 0 (omega arith)) ∙ sym (table_too_long b o (omega arith)))
      | no h ↦ ap (λ t. trace_answer t K 65535) (take_all n b (omega arith))
    ]

-- so that is what is printed
pub prints_too_long : (K : ℕ) (b : List ℕ) → All Byte b → 65536 ≤ length b
    → printed (K ∷ b) ≡ refusal_text (cond (is_table (header_version b)) 3 2) 0
prints_too_long K b o h = prints_refusal K b (cond (is_table (header_version b)) 3 2) 0 (table_too_long b o h)

-- K, and 65,536 bytes or more of what follows
pub printed-cut : (n : ℕ) (input : List ℕ) → 65536 ≤ n → All Byte input → printed (take (suc n) input) ≡ printed input
unfolding printed
printed-cut n [] l o = refl
printed-cut n (K ∷ b) l o = ap traced_text (table-cut n K b l o.1)
