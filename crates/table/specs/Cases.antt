-- Document 01's small rule and other worked cases of running, on their real bytes: computed.
use Rattle.std.specs.Prelude.{ℕ, zero, suc, ◌+◌, ◌≡◌, refl, List, [], ◌∷◌, ◌++◌, length}
use Rattle.std.proofs.Common.{ne_eqb}
use Rattle.expr.specs.Word.{unary, binary}
use Rattle.expr.specs.Token.{operator, read_token}
use Rattle.expr.specs.Expr.{fits, parse_from}
use Rattle.expr.specs.Eval.{value}
use Rattle.file.specs.File.{header_reply, frame, record_of, records, read_file, Accepted, Refused}
use Rattle.table.specs.declared.Answer.{Answer}
use Rattle.table.specs.Table.{instr, read_table}
use Rattle.table.specs.Run.{run}
use Rattle.table.specs.Answer.{refusal, run_answer}
use Rattle.file.specs.File.{head_size, header_inputs, header_count, inputs_limit, input_room}
use Rattle.table.specs.Table.{is_table}

-- (0) if x is zero go to 3; (1) x becomes x - 1; (2) if 1 go to 0; (3) assert 0
abbrev pub small_rule : List ℕ
small_rule =
    0x01 ∷ 0x00 ∷ 0x2C ∷ 0x01 ∷ 0x00 ∷ 0x04
    ∷ 0x00 ∷ 0x06 ∷ 0x04 ∷ 0x00 ∷ 0x03 ∷ 0x02 ∷ 0x00 ∷ 0x12
    ∷ 0x00 ∷ 0x0A ∷ 0x01 ∷ 0x00 ∷ 0x02 ∷ 0x00 ∷ 0x01 ∷ 0x00 ∷ 0x00 ∷ 0x00 ∷ 0x01 ∷ 0x21
    ∷ 0x00 ∷ 0x08 ∷ 0x04 ∷ 0x00 ∷ 0x00 ∷ 0x01 ∷ 0x00 ∷ 0x00 ∷ 0x00 ∷ 0x01
    ∷ 0x00 ∷ 0x06 ∷ 0x03 ∷ 0x01 ∷ 0x00 ∷ 0x00 ∷ 0x00 ∷ 0x00 ∷ []

abbrev pub ended : (back_jumps : ℕ) → Answer
ended r = record { reply = 0; offset = 0; verdict = 0; place = 0; back_jumps = r }

abbrev pub stopped : (back_jumps : ℕ) → Answer
stopped r = record { reply = 0; offset = 0; verdict = 2; place = 0; back_jumps = r }

abbrev pub cut : (back_jumps : ℕ) → Answer
cut r = record { reply = 0; offset = 0; verdict = 3; place = 0; back_jumps = r }

abbrev pub unsafe_at : (place back_jumps : ℕ) → Answer
unsafe_at p r = record { reply = 0; offset = 0; verdict = 1; place = p; back_jumps = r }

pub m1 : run_answer small_rule 0 (0 ∷ []) ≡ unsafe_at 3 0
unfolding run_answer read_table is_table read_file header_reply head_size header_inputs header_count inputs_limit input_room records
    record_of frame
    instr parse_from read_token operator fits run value unary binary
m1 = refl

pub m2 : run_answer small_rule 0 (1 ∷ []) ≡ cut 0
unfolding run_answer read_table is_table read_file header_reply head_size header_inputs header_count inputs_limit input_room records
    record_of frame
    instr parse_from read_token operator fits run value unary binary
m2 = refl

pub m3 : run_answer small_rule 1 (1 ∷ []) ≡ unsafe_at 8 1
unfolding run_answer read_table is_table read_file header_reply head_size header_inputs header_count inputs_limit input_room records
    record_of frame
    instr parse_from read_token operator fits run value unary binary
m3 = refl

pub m4 : run_answer small_rule 1 (2 ∷ []) ≡ cut 1
unfolding run_answer read_table is_table read_file header_reply head_size header_inputs header_count inputs_limit input_room records
    record_of frame
    instr parse_from read_token operator fits run value unary binary
m4 = refl

pub m11 : run_answer (0x01 ∷ 0x00 ∷ 0x06 ∷ 0x00 ∷ 0x00 ∷ 0x00 ∷ []) 0 [] ≡ ended 0
unfolding run_answer read_table is_table read_file header_reply head_size header_inputs header_count inputs_limit input_room records run
m11 = refl

-- K = 255 is accepted, 256 is 8; and 8 comes before 11
bounds : (run_answer small_rule 255 (255 ∷ []) ≡ unsafe_at 1278 255) × (run_answer small_rule 256 (255 ∷ []) ≡ refusal 8 0)
    × (run_answer small_rule 256 [] ≡ refusal 8 0)
    × (run_answer small_rule 0 [] ≡ refusal 11 0)
unfolding run_answer read_table is_table read_file header_reply head_size header_inputs header_count inputs_limit input_room records
    record_of frame
    instr parse_from read_token operator fits run value unary binary
bounds = (refl, refl, refl, refl)

-- a table of no instructions: S = 64 passes, 65 is 4
abbrev inputs : ℕ → List ℕ
inputs S = 0x01 ∷ 0x00 ∷ 0x06 ∷ S ∷ 0x00 ∷ 0x00 ∷ []

sixty_four : (read_table (inputs 64) ≡ Accepted (record { version = 1; inputs = 64 }) []) × (read_table (inputs 65) ≡ Refused 4 0)
unfolding read_table is_table read_file header_reply head_size header_inputs header_count inputs_limit input_room records
sixty_four = (refl, refl)

-- no other version is a table's
versions : (v : ℕ) → (v ≡ 1 → ⊥) → read_table (v ∷ 0x00 ∷ 0x06 ∷ 0x00 ∷ 0x00 ∷ 0x00 ∷ []) ≡ Refused 2 0
unfolding read_table is_table read_file header_reply head_size
versions v h = rw (ne_eqb v 1 h)

-- two faults in one header: fewer than 6 bytes come before the version, that before the length, that before the limits
header_order : (read_table (0x02 ∷ 0x00 ∷ 0x09 ∷ []) ≡ Refused 1 0)
    × (read_table (0x02 ∷ 0x00 ∷ 0x07 ∷ 0x41 ∷ 0x00 ∷ 0x00 ∷ []) ≡ Refused 2 0)
    × (read_table (0x01 ∷ 0x00 ∷ 0x07 ∷ 0x41 ∷ 0x00 ∷ 0x00 ∷ []) ≡ Refused 3 0)
    × (read_table (0x01 ∷ 0x00 ∷ 0x07 ∷ 0x41 ∷ 0x00 ∷ 0x00 ∷ 0x09 ∷ []) ≡ Refused 4 0)
unfolding read_table is_table read_file header_reply head_size header_inputs header_count inputs_limit input_room
header_order = (refl, refl, refl, refl)

-- a record due at the very end of the file is 5 at the file's length
at_the_end : read_table (0x01 ∷ 0x00 ∷ 0x06 ∷ 0x00 ∷ 0x00 ∷ 0x01 ∷ []) ≡ Refused 5 6
unfolding read_table is_table read_file header_reply head_size header_inputs header_count inputs_limit input_room records record_of frame
at_the_end = refl

-- one input, assert s0, and a second record that assigns it by these bytes
abbrev second : List ℕ → List ℕ
second e =
    0x01 ∷ 0x00 ∷ (length e + 15) ∷ 0x01 ∷ 0x00 ∷ 0x02
    ∷ 0x00 ∷ 0x03 ∷ 0x03 ∷ 0x02 ∷ 0x00
    ∷ 0x00 ∷ (length e + 2) ∷ 0x01 ∷ 0x00 ∷ e

-- spare bytes are judged after all records: a 7 in the last record comes first
spare : (read_table (0x01 ∷ 0x00 ∷ 0x0B ∷ 0x00 ∷ 0x00 ∷ 0x01 ∷ 0x00 ∷ 0x01 ∷ 0x02 ∷ 0x00 ∷ 0x00 ∷ []) ≡ Refused 7 9)
    × (read_table (0x01 ∷ 0x00 ∷ 0x08 ∷ 0x00 ∷ 0x00 ∷ 0x00 ∷ 0x00 ∷ 0x00 ∷ []) ≡ Refused 5 6)
unfolding read_table is_table read_file header_reply head_size header_inputs header_count inputs_limit input_room records record_of frame
    instr
    parse_from
spare = (refl, refl)

-- 7 points at the first token that breaks the rules, in the table: the second record's symbol s1, its constant without its last byte, its
-- add over one word, a byte that is no token, and its end where two words are left, or none
pointing : (read_table (second (0x02 ∷ 0x00 ∷ 0x02 ∷ 0x01 ∷ 0x20 ∷ [])) ≡ Refused 7 17)
    × (read_table (second (0x02 ∷ 0x00 ∷ 0x01 ∷ 0x00 ∷ 0x00 ∷ 0x00 ∷ [])) ≡ Refused 7 17)
    × (read_table (second (0x02 ∷ 0x00 ∷ 0x12 ∷ 0x20 ∷ 0x12 ∷ [])) ≡ Refused 7 18)
    × (read_table (second (0x03 ∷ 0x00 ∷ 0x00 ∷ [])) ≡ Refused 7 15)
    × (read_table (second (0x02 ∷ 0x00 ∷ 0x02 ∷ 0x00 ∷ [])) ≡ Refused 7 19)
    × (read_table (second []) ≡ Refused 7 15)
unfolding read_table is_table read_file header_reply head_size header_inputs header_count inputs_limit input_room records record_of frame
    instr
    parse_from read_token fits operator
pointing = (refl, refl, refl, refl, refl, refl)

-- a target against its rule is 6, even before an expression that is 7; kind 0 and kind 5 are 5
faults : (read_table (0x01 ∷ 0x00 ∷ 0x0B ∷ 0x00 ∷ 0x00 ∷ 0x01 ∷ 0x00 ∷ 0x03 ∷ 0x04 ∷ 0x00 ∷ 0x02 ∷ []) ≡ Refused 6 6)
    × (read_table (0x01 ∷ 0x00 ∷ 0x09 ∷ 0x00 ∷ 0x00 ∷ 0x01 ∷ 0x00 ∷ 0x01 ∷ 0x00 ∷ []) ≡ Refused 5 6)
    × (read_table (0x01 ∷ 0x00 ∷ 0x09 ∷ 0x00 ∷ 0x00 ∷ 0x01 ∷ 0x00 ∷ 0x01 ∷ 0x05 ∷ []) ≡ Refused 5 6)
unfolding read_table is_table read_file header_reply head_size header_inputs header_count inputs_limit input_room records record_of frame
    instr
    parse_from
faults = (refl, refl, refl)

-- a self jump is a back jump: (0) if 1 go to 0
self_jump : run_answer (0x01 ∷ 0x00 ∷ 0x10 ∷ 0x00 ∷ 0x00 ∷ 0x01 ∷ 0x00 ∷ 0x08 ∷ 0x04 ∷ 0x00 ∷ 0x00 ∷ 0x01 ∷ 0x00 ∷ 0x00 ∷ 0x00 ∷ 0x01 ∷ [])
    7 [] ≡ cut 7
unfolding run_answer read_table is_table read_file header_reply head_size header_inputs header_count inputs_limit input_room records
    record_of frame
    instr parse_from read_token operator fits run value
self_jump = refl

-- (0) assert x; (1) assume y; (2) assert 0, for x and y: any word but zero is true, a false Assume stops the run, a false Assert is
-- unsafe at its place
abbrev tested : List ℕ
tested =
    0x01 ∷ 0x00 ∷ 0x18 ∷ 0x02 ∷ 0x00 ∷ 0x03
    ∷ 0x00 ∷ 0x03 ∷ 0x03 ∷ 0x02 ∷ 0x00
    ∷ 0x00 ∷ 0x03 ∷ 0x02 ∷ 0x02 ∷ 0x01
    ∷ 0x00 ∷ 0x06 ∷ 0x03 ∷ 0x01 ∷ 0x00 ∷ 0x00 ∷ 0x00 ∷ 0x00 ∷ []

tests : (run_answer tested 3 (0 ∷ 0 ∷ []) ≡ unsafe_at 0 0) × (run_answer tested 3 (2 ∷ 0 ∷ []) ≡ stopped 0)
    × (run_answer tested 3 (2147483648 ∷ 2 ∷ []) ≡ unsafe_at 2 0)
unfolding run_answer read_table is_table read_file header_reply head_size header_inputs header_count inputs_limit input_room records
    record_of frame
    instr parse_from read_token operator fits run value
tests = (refl, refl, refl)

-- (0) if x go to 2; (1) assert 0: target n ends the run, and a target has two bytes
abbrev leaps : List ℕ
leaps =
    0x01 ∷ 0x00 ∷ 0x15 ∷ 0x01 ∷ 0x00 ∷ 0x02
    ∷ 0x00 ∷ 0x05 ∷ 0x04 ∷ 0x00 ∷ 0x02 ∷ 0x02 ∷ 0x00
    ∷ 0x00 ∷ 0x06 ∷ 0x03 ∷ 0x01 ∷ 0x00 ∷ 0x00 ∷ 0x00 ∷ 0x00 ∷ []

to_the_end : (run_answer leaps 0 (1 ∷ []) ≡ ended 0) × (run_answer leaps 0 (0 ∷ []) ≡ unsafe_at 1 0)
unfolding run_answer read_table is_table read_file header_reply head_size header_inputs header_count inputs_limit input_room records
    record_of frame
    instr parse_from read_token operator fits run value
to_the_end = (refl, refl)

-- ---- back jumps of runs that end past the last instruction

-- (0) if x is zero go to 3; (1) x becomes x - 1; (2) if 1 go to 0: leaves the loop through target n after x back jumps
abbrev leaves : List ℕ
leaves =
    0x01 ∷ 0x00 ∷ 0x24 ∷ 0x01 ∷ 0x00 ∷ 0x03
    ∷ 0x00 ∷ 0x06 ∷ 0x04 ∷ 0x00 ∷ 0x03 ∷ 0x02 ∷ 0x00 ∷ 0x12
    ∷ 0x00 ∷ 0x0A ∷ 0x01 ∷ 0x00 ∷ 0x02 ∷ 0x00 ∷ 0x01 ∷ 0x00 ∷ 0x00 ∷ 0x00 ∷ 0x01 ∷ 0x21
    ∷ 0x00 ∷ 0x08 ∷ 0x04 ∷ 0x00 ∷ 0x00 ∷ 0x01 ∷ 0x00 ∷ 0x00 ∷ 0x00 ∷ 0x01 ∷ []

-- fewer than K; just K; and cut by the bound
ends_through_target_n : (run_answer leaves 7 (0 ∷ []) ≡ ended 0) × (run_answer leaves 7 (1 ∷ []) ≡ ended 1)
    × (run_answer leaves 7 (2 ∷ []) ≡ ended 2) × (run_answer leaves 7 (3 ∷ []) ≡ ended 3) × (run_answer leaves 3 (3 ∷ []) ≡ ended 3)
    × (run_answer leaves 2 (3 ∷ []) ≡ cut 2) × (run_answer leaves 0 (1 ∷ []) ≡ cut 0)
unfolding run_answer read_table is_table read_file header_reply head_size header_inputs header_count inputs_limit input_room records
    record_of frame
    instr parse_from read_token operator fits run value unary binary
ends_through_target_n = (refl, refl, refl, refl, refl, refl, refl)

-- (0) x becomes x - 1; (1) if x go to 0: falls off the end after x - 1 back jumps
abbrev falls : List ℕ
falls =
    0x01 ∷ 0x00 ∷ 0x19 ∷ 0x01 ∷ 0x00 ∷ 0x02
    ∷ 0x00 ∷ 0x0A ∷ 0x01 ∷ 0x00 ∷ 0x02 ∷ 0x00 ∷ 0x01 ∷ 0x00 ∷ 0x00 ∷ 0x00 ∷ 0x01 ∷ 0x21
    ∷ 0x00 ∷ 0x05 ∷ 0x04 ∷ 0x00 ∷ 0x00 ∷ 0x02 ∷ 0x00 ∷ []

falls_off_the_end : (run_answer falls 7 (1 ∷ []) ≡ ended 0) × (run_answer falls 7 (2 ∷ []) ≡ ended 1)
    × (run_answer falls 7 (3 ∷ []) ≡ ended 2)
    × (run_answer falls 7 (4 ∷ []) ≡ ended 3) × (run_answer falls 3 (4 ∷ []) ≡ ended 3) × (run_answer falls 2 (4 ∷ []) ≡ cut 2)
    × (run_answer falls 255 (5 ∷ []) ≡ ended 4)
unfolding run_answer read_table is_table read_file header_reply head_size header_inputs header_count inputs_limit input_room records
    record_of frame
    instr parse_from read_token operator fits run value binary
falls_off_the_end = (refl, refl, refl, refl, refl, refl, refl)

-- ---- one bound for all back jumps of one run together

-- (0) x becomes x - 1; (1) if x go to 0; (2) y becomes y - 1; (3) if y go to 2; (4) assert 0: two loops, of x - 1 and y - 1 back jumps
abbrev two_loops : List ℕ
two_loops =
    0x01 ∷ 0x00 ∷ 0x34 ∷ 0x02 ∷ 0x00 ∷ 0x05
    ∷ 0x00 ∷ 0x0A ∷ 0x01 ∷ 0x00 ∷ 0x02 ∷ 0x00 ∷ 0x01 ∷ 0x00 ∷ 0x00 ∷ 0x00 ∷ 0x01 ∷ 0x21
    ∷ 0x00 ∷ 0x05 ∷ 0x04 ∷ 0x00 ∷ 0x00 ∷ 0x02 ∷ 0x00
    ∷ 0x00 ∷ 0x0A ∷ 0x01 ∷ 0x01 ∷ 0x02 ∷ 0x01 ∷ 0x01 ∷ 0x00 ∷ 0x00 ∷ 0x00 ∷ 0x01 ∷ 0x21
    ∷ 0x00 ∷ 0x05 ∷ 0x04 ∷ 0x00 ∷ 0x02 ∷ 0x02 ∷ 0x01
    ∷ 0x00 ∷ 0x06 ∷ 0x03 ∷ 0x01 ∷ 0x00 ∷ 0x00 ∷ 0x00 ∷ 0x00 ∷ []

-- K = 2 is enough for either loop alone, not for both; K = 3 just is, and more changes nothing
shared_bound : (run_answer two_loops 2 (3 ∷ 1 ∷ []) ≡ unsafe_at 16 2) × (run_answer two_loops 2 (1 ∷ 3 ∷ []) ≡ unsafe_at 16 2)
    × (run_answer two_loops 2 (3 ∷ 2 ∷ []) ≡ cut 2) × (run_answer two_loops 3 (3 ∷ 2 ∷ []) ≡ unsafe_at 22 3)
    × (run_answer two_loops 255 (3 ∷ 2 ∷ []) ≡ unsafe_at 22 3)
unfolding run_answer read_table is_table read_file header_reply head_size header_inputs header_count inputs_limit input_room records
    record_of frame
    instr parse_from read_token operator fits run value binary
shared_bound = (refl, refl, refl, refl, refl)

-- ---- limits

-- 1,024 instructions, each an Assert of symbol 0, in 5,126 bytes
abbrev pub asserts : ℕ → List ℕ
asserts zero = []
asserts (suc n) = 0x00 ∷ 0x03 ∷ 0x03 ∷ 0x02 ∷ 0x00 ∷ asserts n

abbrev pub many_asserts : List ℕ
many_asserts = 0x01 ∷ 0x14 ∷ 0x06 ∷ 0x01 ∷ 0x04 ∷ 0x00 ∷ asserts 1024

many : (length many_asserts ≡ 5126) × (run_answer many_asserts 1 (1 ∷ []) ≡ ended 0) × (run_answer many_asserts 1 (0 ∷ []) ≡ unsafe_at 0 0)
unfolding run_answer read_table is_table read_file header_reply head_size header_inputs header_count inputs_limit input_room records
    record_of frame
    instr parse_from read_token operator fits run value
many = (refl, refl, refl)

-- one more, in 5,131 bytes, is 4
abbrev too_many : List ℕ
too_many = 0x01 ∷ 0x14 ∷ 0x0B ∷ 0x01 ∷ 0x04 ∷ 0x01 ∷ asserts 1025

too_many_lem : (length too_many ≡ 5131) × (read_table too_many ≡ Refused 4 0)
    × (run_answer too_many 1 (1 ∷ []) ≡ record { reply = 4; offset = 0; verdict = 0; place = 0; back_jumps = 0 })
unfolding run_answer read_table is_table read_file header_reply head_size header_inputs header_count inputs_limit input_room
too_many_lem = (refl, refl, refl)

-- 1,023 Asserts of symbol 0, then one of symbol 1: the last instruction fails
abbrev last_fails : List ℕ
last_fails = 0x01 ∷ 0x14 ∷ 0x06 ∷ 0x02 ∷ 0x04 ∷ 0x00 ∷ asserts 1023 ++ 0x00 ∷ 0x03 ∷ 0x03 ∷ 0x02 ∷ 0x01 ∷ []

last-fails : (run_answer last_fails 0 (1 ∷ 0 ∷ []) ≡ unsafe_at 1023 0) × (run_answer last_fails 0 (1 ∷ 1 ∷ []) ≡ ended 0)
unfolding run_answer read_table is_table read_file header_reply head_size header_inputs header_count inputs_limit input_room records
    record_of frame
    instr parse_from read_token operator fits run value
last-fails = (refl, refl)

-- (0) x becomes x - 1; (1) if x go to 0; (2) if 1 go to 1,023; 1,020 Asserts; (1,023) assert 0: the last instruction fails after x - 1
-- back jumps
abbrev far : List ℕ
far =
    0x01 ∷ 0x14 ∷ 0x17 ∷ 0x01 ∷ 0x04 ∷ 0x00
    ∷ 0x00 ∷ 0x0A ∷ 0x01 ∷ 0x00 ∷ 0x02 ∷ 0x00 ∷ 0x01 ∷ 0x00 ∷ 0x00 ∷ 0x00 ∷ 0x01 ∷ 0x21
    ∷ 0x00 ∷ 0x05 ∷ 0x04 ∷ 0x00 ∷ 0x00 ∷ 0x02 ∷ 0x00
    ∷ 0x00 ∷ 0x08 ∷ 0x04 ∷ 0x03 ∷ 0xFF ∷ 0x01 ∷ 0x00 ∷ 0x00 ∷ 0x00 ∷ 0x01
    ∷ asserts 1020
    ++ 0x00 ∷ 0x06 ∷ 0x03 ∷ 0x01 ∷ 0x00 ∷ 0x00 ∷ 0x00 ∷ 0x00 ∷ []

-- places of a run pass 65,535: 63 × 1,025 + 1,023, and the greatest of all, 255 × 1,025 + 1,023
far-places : (run_answer far 63 (64 ∷ []) ≡ unsafe_at 65598 63) × (run_answer far 255 (256 ∷ []) ≡ unsafe_at 262398 255)
unfolding run_answer read_table is_table read_file header_reply head_size header_inputs header_count inputs_limit input_room records
    record_of frame
    instr parse_from read_token operator fits run value binary
far-places = (refl, refl)
