-- What the program's buffers must be, in numbers that the definitions do not hold: no fewer bytes than K and 65,536 decide what is printed,
-- and there is a text that is longer than any table or trace. With such buffers the text of what is read is the text of all input.
use Rattle.std.specs.Prelude.{ℕ, zero, suc, ◌≤◌, ◌<◌, ◌≡◌, refl, List, [], ◌∷◌, ◌++◌, length, take, get_or, replicate, eqb}
use Rattle.std.proofs.Common.{arith, sym, ◌∙◌, le-leb, eq-eqb}
use Rattle.std.proofs.Math.Decide.{dec_lt}
use Rattle.std.proofs.Math.Path.{ap}
use Rattle.std.proofs.Math.Bool.{cond}
use Rattle.std.proofs.lemmas.List.{length-replicate, take-append-le}
use Rattle.std.proofs.Math.ListN.{length-append}
use Rattle.expr.specs.Lists.{All, all_append, all_take}
use Rattle.expr.specs.Number.{Byte}
use Rattle.expr.specs.Token.{operator, read_token}
use Rattle.expr.specs.Expr.{fits, parse_from}
use Rattle.file.specs.File.{header_reply, frame, record_of, records, read_file, encode}
use Rattle.file.proofs.FileLaws.{file-refused}
use Rattle.table.specs.Table.{instr, instrs, read_table}
use Rattle.trace.specs.Trace.{stmt, read_trace}
use Rattle.unwind.specs.Places.{places}
use Rattle.unwind.specs.Unwind.{unwind}
use Rattle.unwind.specs.Answer.{trace_answer}
use Rattle.slice.specs.Slice.{slice}
use Rattle.slice.specs.Answer.{slice_answer}
use Rattle.show.specs.Text.{refusal_text, printed}
use Rattle.write.specs.Decimal.{decimal}
use Rattle.show.specs.TextLaws.{prints_refusal, prints_too_long}
use Rattle.show.specs.Answer.{show_answer}
use Rattle.show.specs.AnswerLaws.{show_done}
use Rattle.print_slice.specs.Buffers.{Decides, HoldsEvery}
use Rattle.file.specs.File.{head_size, header_inputs, header_count, inputs_limit, input_room, header}
use Rattle.table.specs.Table.{is_table}
use Rattle.trace.specs.Trace.{is_trace, trace_version, old_version, tells_bound}

-- ---- what is read

-- a table of m bytes after its header, with 65 inputs and 65,535 in its length field
abbrev table : (m : ℕ) → List ℕ
table m = 1 ∷ 255 ∷ 255 ∷ 65 ∷ 0 ∷ 0 ∷ replicate m 0

-- behind K = 0
abbrev input : (m : ℕ) → List ℕ
input m = 0 ∷ table m

zeros : (m : ℕ) → All Byte (replicate m 0)
zeros zero = tt
zeros (suc m) = (omega arith, zeros m)

input-bytes : (m : ℕ) → All Byte (input m)
input-bytes m = (omega arith, (omega arith, (omega arith, (omega arith, (omega arith, (omega arith, (omega arith, zeros m)))))))

refusals_differ : refusal_text 4 0 ≡ refusal_text 3 0 → ⊥
unfolding decimal
refusals_differ e = let z : ◌≡◌ {A = ℕ} 52 51 = ap (λ t. get_or t 8 0) e in omega arith

module _ (m : ℕ) (e : m ≡ 65529) where
  table-length : length (table m) ≡ 65535
  table-length = omega (arith, e, length-replicate {A = ℕ} m 0)

  -- its length is the field's: it is refused for its inputs
  right : header_reply is_table 1024 (table m) ≡ 4
  unfolding header_reply is_table head_size header_inputs header_count inputs_limit input_room
  right =
      ap (λ x. cond x (cond (eqb 65535 (length (table m))) 4 3) 1) (le-leb 6 (length (table m)) (omega (arith, table-length)))
      ∙ ap (λ x. cond x 4 3) (eq-eqb 65535 (length (table m)) (sym table-length))

  whole : printed (input m) ≡ refusal_text 4 0
  unfolding read_table
  whole = prints_refusal 0 (table m) 4 0 (file-refused is_table 1024 instrs (table m) 4 right (λ z. omega arith))

  -- with a byte more it is too long
  more_bytes : All Byte (input m ++ 0 ∷ [])
  more_bytes = all_append Byte (input m) (0 ∷ []) (input-bytes m) (omega arith, tt)

  longer : printed (input m ++ 0 ∷ []) ≡ refusal_text 3 0
  unfolding is_table
  longer = prints_too_long 0 (table m ++ 0 ∷ []) more_bytes.1 (omega (arith, table-length, length-append (table m) (0 ∷ [])))

  -- and no 65,536 bytes tell one from the other
  not_decided : (n : ℕ) → n < 65537 → Decides n → ⊥
  not_decided n h d =
      refusals_differ
      (sym whole ∙ sym (d.decides (input m) (input-bytes m))
      ∙ sym (ap printed (take-append-le n (input m) (0 ∷ []) (omega (arith, table-length))))
      ∙ d.decides (input m ++ 0 ∷ []) more_bytes ∙ longer)

pub all_read : (n : ℕ) → Decides n → 65537 ≤ n
all_read n d = elim (dec_lt n 65537) [ yes h ↦ absurd (not_decided 65529 refl n h d) | no h ↦ omega arith ]

-- ---- the text

-- Asserts of s0 zero
abbrev asserts : ℕ → List ℕ
asserts zero = []
asserts (suc n) = 0x00 ∷ 0x04 ∷ 0x03 ∷ 0x02 ∷ 0x00 ∷ 0x12 ∷ asserts n

-- 1,024 of them under K = 1, of one input
abbrev many_asserts : List ℕ
many_asserts = 1 ∷ 0x01 ∷ 0x18 ∷ 0x06 ∷ 0x01 ∷ 0x04 ∷ 0x00 ∷ asserts 1024

asserts-bytes : (n : ℕ) → All Byte (asserts n)
asserts-bytes zero = tt
asserts-bytes (suc n) = (omega arith, (omega arith, (omega arith, (omega arith, (omega arith, (omega arith, asserts-bytes n))))))

many-bytes : All Byte many_asserts
many-bytes = (omega arith, (omega arith, (omega arith, (omega arith, (omega arith, (omega arith, (omega arith, asserts-bytes 1024)))))))

many-printed : length (printed many_asserts) ≡ 75686
unfolding printed decimal trace_answer trace_version slice_answer read_table is_table read_file header_reply head_size header_inputs
    header_count
    inputs_limit input_room records record_of frame instr parse_from read_token operator fits unwind places encode header
    read_trace is_trace old_version tells_bound stmt slice
many-printed = refl

pub long-text : (m : ℕ) → HoldsEvery m → 75686 ≤ m
long-text m h = omega (arith, h.holds many_asserts many-bytes, many-printed)

-- ---- both

pub shows_all : (n m : ℕ) → Decides n → HoldsEvery m → (input : List ℕ) → All Byte input
    → show_answer (take n input) m ≡ record { reply = 0; offset = 0; bytes = printed input }
shows_all n m d h input o =
    show_done (take n input) m (h.holds (take n input) (all_take Byte n input o))
    ∙ ap (λ text. record { reply = 0; offset = 0; bytes = text }) (d.decides input o)
