-- Document 01's marked cases of judging, on their real bytes: computed.
use Rattle.std.specs.Prelude.{ℕ, zero, suc, ◌+◌, ◌≡◌, refl, List, [], ◌∷◌, ◌++◌, length}
use Rattle.std.proofs.Common.{ne_eqb}
use Rattle.expr.specs.Word.{unary, binary}
use Rattle.expr.specs.Token.{operator, read_token}
use Rattle.expr.specs.Expr.{fits, parse_from}
use Rattle.expr.specs.Eval.{value}
use Rattle.file.specs.File.{header_reply, frame, record_of, records, read_file}
use Rattle.trace.specs.declared.Answer.{Answer}
use Rattle.trace.specs.Trace.{stmt, read_trace}
use Rattle.trace.specs.Judge.{judge}
use Rattle.trace.specs.Answer.{refusal, judge_answer}
use Rattle.file.specs.File.{head_size, header_inputs, header_count, inputs_limit, input_room}
use Rattle.trace.specs.Trace.{is_trace, trace_version, old_version, tells_bound}

abbrev pub ended : Answer
ended = record { reply = 0; offset = 0; verdict = 0; place = 0 }

abbrev pub stopped : Answer
stopped = record { reply = 0; offset = 0; verdict = 2; place = 0 }

abbrev pub cut : Answer
cut = record { reply = 0; offset = 0; verdict = 3; place = 0 }

abbrev pub unsafe_at : (place : ℕ) → Answer
unsafe_at p = record { reply = 0; offset = 0; verdict = 1; place = p }

-- the small rule's trace under K = 0, in a version and with its kind of the bound's test: assigns to s1, s2 and s3, the bound at 2, assert
-- at 3, assign to s4
abbrev pub small_under0 : (version bound : ℕ) → List ℕ
small_under0 version bound =
    version ∷ 0x00 ∷ 0x9C ∷ 0x01 ∷ 0x00 ∷ 0x06
    ∷ 0x00 ∷ 0x0A ∷ 0x01 ∷ 0xFF ∷ 0xFF ∷ 0x00 ∷ 0x01
    ∷ 0x01 ∷ 0x00 ∷ 0x00 ∷ 0x00 ∷ 0x00
    ∷ 0x00 ∷ 0x1F ∷ 0x01 ∷ 0x00 ∷ 0x00 ∷ 0x00 ∷ 0x02
    ∷ 0x03 ∷ 0x00 ∷ 0x01 ∷ 0x01 ∷ 0x00 ∷ 0x00 ∷ 0x00 ∷ 0x00 ∷ 0x2D
    ∷ 0x03 ∷ 0x00 ∷ 0x00 ∷ 0x12 ∷ 0x01 ∷ 0x00 ∷ 0x00 ∷ 0x00 ∷ 0x03 ∷ 0x03 ∷ 0x00 ∷ 0x01 ∷ 0x30
    ∷ 0x03 ∷ 0x00 ∷ 0x01 ∷ 0x30
    ∷ 0x00 ∷ 0x1B ∷ 0x01 ∷ 0x00 ∷ 0x01 ∷ 0x00 ∷ 0x03
    ∷ 0x03 ∷ 0x00 ∷ 0x02 ∷ 0x01 ∷ 0x00 ∷ 0x00 ∷ 0x00 ∷ 0x01 ∷ 0x2D
    ∷ 0x03 ∷ 0x00 ∷ 0x00 ∷ 0x01 ∷ 0x00 ∷ 0x00 ∷ 0x00 ∷ 0x01 ∷ 0x21
    ∷ 0x03 ∷ 0x00 ∷ 0x00 ∷ 0x30
    ∷ 0x00 ∷ 0x18 ∷ bound ∷ 0x00 ∷ 0x02
    ∷ 0x03 ∷ 0x00 ∷ 0x02 ∷ 0x01 ∷ 0x00 ∷ 0x00 ∷ 0x00 ∷ 0x02 ∷ 0x2D
    ∷ 0x01 ∷ 0x00 ∷ 0x00 ∷ 0x00 ∷ 0x01 ∷ 0x12
    ∷ 0x01 ∷ 0x00 ∷ 0x00 ∷ 0x00 ∷ 0x01 ∷ 0x30
    ∷ 0x00 ∷ 0x17 ∷ 0x03 ∷ 0x00 ∷ 0x03
    ∷ 0x03 ∷ 0x00 ∷ 0x02 ∷ 0x01 ∷ 0x00 ∷ 0x00 ∷ 0x00 ∷ 0x03 ∷ 0x2D
    ∷ 0x01 ∷ 0x00 ∷ 0x00 ∷ 0x00 ∷ 0x00
    ∷ 0x01 ∷ 0x00 ∷ 0x00 ∷ 0x00 ∷ 0x01 ∷ 0x30
    ∷ 0x00 ∷ 0x17 ∷ 0x01 ∷ 0x00 ∷ 0x04 ∷ 0x00 ∷ 0x04
    ∷ 0x03 ∷ 0x00 ∷ 0x02 ∷ 0x01 ∷ 0x00 ∷ 0x00 ∷ 0x00 ∷ 0x04 ∷ 0x2D
    ∷ 0x01 ∷ 0x00 ∷ 0x00 ∷ 0x00 ∷ 0x05
    ∷ 0x03 ∷ 0x00 ∷ 0x02 ∷ 0x30 ∷ []

-- and under K = 1
abbrev pub small_under1 : (version bound : ℕ) → List ℕ
small_under1 version bound =
    version ∷ 0x01 ∷ 0x2E ∷ 0x01 ∷ 0x00 ∷ 0x0B
    ∷ 0x00 ∷ 0x0A ∷ 0x01 ∷ 0xFF ∷ 0xFF ∷ 0x00 ∷ 0x01
    ∷ 0x01 ∷ 0x00 ∷ 0x00 ∷ 0x00 ∷ 0x00
    ∷ 0x00 ∷ 0x1F ∷ 0x01 ∷ 0x00 ∷ 0x00 ∷ 0x00 ∷ 0x02
    ∷ 0x03 ∷ 0x00 ∷ 0x01 ∷ 0x01 ∷ 0x00 ∷ 0x00 ∷ 0x00 ∷ 0x00 ∷ 0x2D
    ∷ 0x03 ∷ 0x00 ∷ 0x00 ∷ 0x12 ∷ 0x01 ∷ 0x00 ∷ 0x00 ∷ 0x00 ∷ 0x03 ∷ 0x03 ∷ 0x00 ∷ 0x01 ∷ 0x30
    ∷ 0x03 ∷ 0x00 ∷ 0x01 ∷ 0x30
    ∷ 0x00 ∷ 0x1B ∷ 0x01 ∷ 0x00 ∷ 0x01 ∷ 0x00 ∷ 0x03
    ∷ 0x03 ∷ 0x00 ∷ 0x02 ∷ 0x01 ∷ 0x00 ∷ 0x00 ∷ 0x00 ∷ 0x01 ∷ 0x2D
    ∷ 0x03 ∷ 0x00 ∷ 0x00 ∷ 0x01 ∷ 0x00 ∷ 0x00 ∷ 0x00 ∷ 0x01 ∷ 0x21
    ∷ 0x03 ∷ 0x00 ∷ 0x00 ∷ 0x30
    ∷ 0x00 ∷ 0x20 ∷ 0x01 ∷ 0x00 ∷ 0x02 ∷ 0x00 ∷ 0x04
    ∷ 0x03 ∷ 0x00 ∷ 0x02 ∷ 0x01 ∷ 0x00 ∷ 0x00 ∷ 0x00 ∷ 0x02 ∷ 0x2D
    ∷ 0x01 ∷ 0x00 ∷ 0x00 ∷ 0x00 ∷ 0x01 ∷ 0x01 ∷ 0x00 ∷ 0x00 ∷ 0x00 ∷ 0x05 ∷ 0x03 ∷ 0x00 ∷ 0x02 ∷ 0x30
    ∷ 0x03 ∷ 0x00 ∷ 0x02 ∷ 0x30
    ∷ 0x00 ∷ 0x17 ∷ 0x03 ∷ 0x00 ∷ 0x03
    ∷ 0x03 ∷ 0x00 ∷ 0x04 ∷ 0x01 ∷ 0x00 ∷ 0x00 ∷ 0x00 ∷ 0x03 ∷ 0x2D
    ∷ 0x01 ∷ 0x00 ∷ 0x00 ∷ 0x00 ∷ 0x00
    ∷ 0x01 ∷ 0x00 ∷ 0x00 ∷ 0x00 ∷ 0x01 ∷ 0x30
    ∷ 0x00 ∷ 0x17 ∷ 0x01 ∷ 0x00 ∷ 0x04 ∷ 0x00 ∷ 0x05
    ∷ 0x03 ∷ 0x00 ∷ 0x04 ∷ 0x01 ∷ 0x00 ∷ 0x00 ∷ 0x00 ∷ 0x04 ∷ 0x2D
    ∷ 0x01 ∷ 0x00 ∷ 0x00 ∷ 0x00 ∷ 0x0A
    ∷ 0x03 ∷ 0x00 ∷ 0x04 ∷ 0x30
    ∷ 0x00 ∷ 0x1F ∷ 0x01 ∷ 0x00 ∷ 0x05 ∷ 0x00 ∷ 0x06
    ∷ 0x03 ∷ 0x00 ∷ 0x05 ∷ 0x01 ∷ 0x00 ∷ 0x00 ∷ 0x00 ∷ 0x05 ∷ 0x2D
    ∷ 0x03 ∷ 0x00 ∷ 0x03 ∷ 0x12 ∷ 0x01 ∷ 0x00 ∷ 0x00 ∷ 0x00 ∷ 0x08 ∷ 0x03 ∷ 0x00 ∷ 0x05 ∷ 0x30
    ∷ 0x03 ∷ 0x00 ∷ 0x05 ∷ 0x30
    ∷ 0x00 ∷ 0x1B ∷ 0x01 ∷ 0x00 ∷ 0x06 ∷ 0x00 ∷ 0x07
    ∷ 0x03 ∷ 0x00 ∷ 0x06 ∷ 0x01 ∷ 0x00 ∷ 0x00 ∷ 0x00 ∷ 0x06 ∷ 0x2D
    ∷ 0x03 ∷ 0x00 ∷ 0x03 ∷ 0x01 ∷ 0x00 ∷ 0x00 ∷ 0x00 ∷ 0x01 ∷ 0x21
    ∷ 0x03 ∷ 0x00 ∷ 0x03 ∷ 0x30
    ∷ 0x00 ∷ 0x18 ∷ bound ∷ 0x00 ∷ 0x07
    ∷ 0x03 ∷ 0x00 ∷ 0x06 ∷ 0x01 ∷ 0x00 ∷ 0x00 ∷ 0x00 ∷ 0x07 ∷ 0x2D
    ∷ 0x01 ∷ 0x00 ∷ 0x00 ∷ 0x00 ∷ 0x01 ∷ 0x12
    ∷ 0x01 ∷ 0x00 ∷ 0x00 ∷ 0x00 ∷ 0x01 ∷ 0x30
    ∷ 0x00 ∷ 0x17 ∷ 0x03 ∷ 0x00 ∷ 0x08
    ∷ 0x03 ∷ 0x00 ∷ 0x06 ∷ 0x01 ∷ 0x00 ∷ 0x00 ∷ 0x00 ∷ 0x08 ∷ 0x2D
    ∷ 0x01 ∷ 0x00 ∷ 0x00 ∷ 0x00 ∷ 0x00
    ∷ 0x01 ∷ 0x00 ∷ 0x00 ∷ 0x00 ∷ 0x01 ∷ 0x30
    ∷ 0x00 ∷ 0x17 ∷ 0x01 ∷ 0x00 ∷ 0x09 ∷ 0x00 ∷ 0x08
    ∷ 0x03 ∷ 0x00 ∷ 0x06 ∷ 0x01 ∷ 0x00 ∷ 0x00 ∷ 0x00 ∷ 0x09 ∷ 0x2D
    ∷ 0x01 ∷ 0x00 ∷ 0x00 ∷ 0x00 ∷ 0x0A
    ∷ 0x03 ∷ 0x00 ∷ 0x06 ∷ 0x30 ∷ []

-- as they are written
abbrev pub small_trace0 : List ℕ
small_trace0 = small_under0 0x82 0x04

abbrev pub small_trace1 : List ℕ
small_trace1 = small_under1 0x82 0x04

pub m1 : judge_answer small_trace0 (0 ∷ []) ≡ unsafe_at 3
unfolding judge_answer read_trace is_trace trace_version old_version tells_bound read_file header_reply head_size header_inputs header_count
    inputs_limit input_room records record_of frame stmt parse_from read_token operator fits judge value unary binary
m1 = refl

pub m2 : judge_answer small_trace0 (1 ∷ []) ≡ cut
unfolding judge_answer read_trace is_trace trace_version old_version tells_bound read_file header_reply head_size header_inputs header_count
    inputs_limit input_room records record_of frame stmt parse_from read_token operator fits judge value unary binary
m2 = refl

pub m3 : judge_answer small_trace1 (1 ∷ []) ≡ unsafe_at 8
unfolding judge_answer read_trace is_trace trace_version old_version tells_bound read_file header_reply head_size header_inputs header_count
    inputs_limit input_room records record_of frame stmt parse_from read_token operator fits judge value unary binary
m3 = refl

pub m4 : judge_answer small_trace1 (2 ∷ []) ≡ cut
unfolding judge_answer read_trace is_trace trace_version old_version tells_bound read_file header_reply head_size header_inputs header_count
    inputs_limit input_room records record_of frame stmt parse_from read_token operator fits judge value unary binary
m4 = refl

-- and as they were written before: a cut shows as stopped
pub old : (judge_answer (small_under0 0x81 0x02) (0 ∷ []) ≡ unsafe_at 3) × (judge_answer (small_under0 0x81 0x02) (1 ∷ []) ≡ stopped)
    × (judge_answer (small_under1 0x81 0x02) (1 ∷ []) ≡ unsafe_at 8) × (judge_answer (small_under1 0x81 0x02) (2 ∷ []) ≡ stopped)
unfolding judge_answer read_trace is_trace trace_version old_version tells_bound read_file header_reply head_size header_inputs header_count
    inputs_limit input_room records record_of frame stmt parse_from read_token operator fits judge value unary binary
old = (refl, refl, refl, refl)

-- kind 4 is refused under 129, at the record; and no other version is known
bounds-kind : (judge_answer (small_under0 0x81 0x04) (1 ∷ []) ≡ refusal 5 80)
    × (judge_answer (small_under0 0x82 0x05) (1 ∷ []) ≡ refusal 5 80)
    × (judge_answer (small_under0 0x80 0x02) (1 ∷ []) ≡ refusal 2 0) × (judge_answer (small_under0 0x83 0x04) (1 ∷ []) ≡ refusal 2 0)
unfolding judge_answer read_trace is_trace trace_version old_version tells_bound read_file header_reply head_size header_inputs header_count
    inputs_limit input_room records record_of frame stmt parse_from read_token operator fits judge value unary binary
bounds-kind = (refl, refl, refl, refl)

-- the trace of a table without instructions
abbrev pub no_instructions : List ℕ
no_instructions =
    0x82 ∷ 0x00 ∷ 0x2B ∷ 0x00 ∷ 0x00 ∷ 0x02
    ∷ 0x00 ∷ 0x0A ∷ 0x01 ∷ 0xFF ∷ 0xFF ∷ 0x00 ∷ 0x00
    ∷ 0x01 ∷ 0x00 ∷ 0x00 ∷ 0x00 ∷ 0x00
    ∷ 0x00 ∷ 0x17 ∷ 0x01 ∷ 0x00 ∷ 0x00 ∷ 0x00 ∷ 0x01
    ∷ 0x03 ∷ 0x00 ∷ 0x00 ∷ 0x01 ∷ 0x00 ∷ 0x00 ∷ 0x00 ∷ 0x00 ∷ 0x2D
    ∷ 0x01 ∷ 0x00 ∷ 0x00 ∷ 0x00 ∷ 0x01
    ∷ 0x03 ∷ 0x00 ∷ 0x00 ∷ 0x30 ∷ []

pub m11 : judge_answer no_instructions [] ≡ ended
unfolding judge_answer read_trace is_trace trace_version old_version tells_bound read_file header_reply head_size header_inputs header_count
    inputs_limit input_room records record_of frame stmt parse_from read_token operator fits judge value unary binary
m11 = refl

-- source 000's example: s1 = s0 + 1 at 0; assert s1 ult 10 at 1
abbrev pub example : List ℕ
example =
    0x81 ∷ 0x00 ∷ 0x24 ∷ 0x01 ∷ 0x00 ∷ 0x02
    ∷ 0x00 ∷ 0x0E ∷ 0x01 ∷ 0x00 ∷ 0x00 ∷ 0x00 ∷ 0x01
    ∷ 0x03 ∷ 0x00 ∷ 0x00 ∷ 0x01 ∷ 0x00 ∷ 0x00 ∷ 0x00 ∷ 0x01 ∷ 0x20
    ∷ 0x00 ∷ 0x0C ∷ 0x03 ∷ 0x00 ∷ 0x01
    ∷ 0x03 ∷ 0x00 ∷ 0x01 ∷ 0x01 ∷ 0x00 ∷ 0x00 ∷ 0x00 ∷ 0x0A ∷ 0x2B ∷ []

pub m12 : (judge_answer example (5 ∷ []) ≡ ended) × (judge_answer example (10 ∷ []) ≡ unsafe_at 1)
    × (judge_answer example [] ≡ refusal 11 0)
unfolding judge_answer read_trace is_trace trace_version old_version tells_bound read_file header_reply head_size header_inputs header_count
    inputs_limit input_room records record_of frame stmt parse_from read_token operator fits judge value unary binary
m12 = (refl, refl, refl)

-- ---- refusals, of traces without inputs

abbrev trace_of : (total n : ℕ) → List ℕ → List ℕ
trace_of total n records = 0x81 ∷ 0x00 ∷ total ∷ 0x00 ∷ 0x00 ∷ n ∷ records

-- assert 0 at 7
abbrev fails : List ℕ
fails = 0x00 ∷ 0x08 ∷ 0x03 ∷ 0x00 ∷ 0x07 ∷ 0x01 ∷ 0x00 ∷ 0x00 ∷ 0x00 ∷ 0x00 ∷ []

-- assume 0 at 9
abbrev excuses : List ℕ
excuses = 0x00 ∷ 0x08 ∷ 0x02 ∷ 0x00 ∷ 0x09 ∷ 0x01 ∷ 0x00 ∷ 0x00 ∷ 0x00 ∷ 0x00 ∷ []

-- an assign of symbol x that reads symbol y
abbrev copies : (x y : ℕ) → List ℕ
copies x y = 0x00 ∷ 0x08 ∷ 0x01 ∷ 0x00 ∷ 0x00 ∷ 0x00 ∷ x ∷ 0x03 ∷ 0x00 ∷ y ∷ []

-- an assign of 1 to symbol x
abbrev one : (x : ℕ) → List ℕ
one x = 0x00 ∷ 0x0A ∷ 0x01 ∷ 0x00 ∷ 0x00 ∷ 0x00 ∷ x ∷ 0x01 ∷ 0x00 ∷ 0x00 ∷ 0x00 ∷ 0x01 ∷ []

-- a spare byte at the end wins over an assert that fails first; an assume excuses only before the assert; symbols rise; a statement does
-- not read its own symbol
sentences : (judge_answer (trace_of 16 1 fails) [] ≡ unsafe_at 7) × (judge_answer (trace_of 17 1 (fails ++ 0x00 ∷ [])) [] ≡ refusal 5 16)
    × (judge_answer (trace_of 26 2 (fails ++ excuses)) [] ≡ unsafe_at 7) × (judge_answer (trace_of 26 2 (excuses ++ fails)) [] ≡ stopped)
    × (judge_answer (trace_of 28 2 (one 1 ++ copies 2 1)) [] ≡ ended) × (judge_answer (trace_of 30 2 (one 1 ++ one 1)) [] ≡ refusal 6 18)
    × (judge_answer (trace_of 30 2 (one 1 ++ one 0)) [] ≡ refusal 6 18)
    × (judge_answer (trace_of 16 1 (copies 0 0)) [] ≡ refusal 7 13) × (judge_answer (trace_of 28 2 (one 1 ++ copies 2 0)) [] ≡ refusal 7 25)
unfolding judge_answer read_trace is_trace trace_version old_version tells_bound read_file header_reply head_size header_inputs header_count
    inputs_limit input_room records record_of frame stmt parse_from read_token operator fits judge value unary binary
sentences = (refl, refl, refl, refl, refl, refl, refl, refl, refl)

-- after an assign of 1 to symbol 3, an assert of these bytes
abbrev then : List ℕ → List ℕ
then e = trace_of (length e + 23) 2 (one 3 ++ 0x00 ∷ (length e + 3) ∷ 0x03 ∷ 0x00 ∷ 0x07 ∷ e)

-- 7 points at the first token that breaks the rules, in the trace: a symbol that was skipped, a symbol of a table, a constant and a symbol
-- without their last byte, an ite over two words, and the end where two words are left, or none
pointing : (judge_answer (then (0x03 ∷ 0x00 ∷ 0x03 ∷ 0x03 ∷ 0x00 ∷ 0x02 ∷ 0x20 ∷ [])) [] ≡ refusal 7 26)
    × (judge_answer (then (0x02 ∷ 0x03 ∷ [])) [] ≡ refusal 7 23)
    × (judge_answer (then (0x03 ∷ 0x00 ∷ 0x03 ∷ 0x01 ∷ 0x00 ∷ 0x00 ∷ 0x00 ∷ [])) [] ≡ refusal 7 26)
    × (judge_answer (then (0x03 ∷ 0x00 ∷ 0x03 ∷ 0x03 ∷ 0x00 ∷ [])) [] ≡ refusal 7 26)
    × (judge_answer (then (0x03 ∷ 0x00 ∷ 0x03 ∷ 0x03 ∷ 0x00 ∷ 0x03 ∷ 0x30 ∷ 0x12 ∷ [])) [] ≡ refusal 7 29)
    × (judge_answer (then (0x03 ∷ 0x00 ∷ 0x03 ∷ 0x03 ∷ 0x00 ∷ 0x03 ∷ [])) [] ≡ refusal 7 29)
    × (judge_answer (then []) [] ≡ refusal 7 23)
unfolding judge_answer read_trace is_trace trace_version old_version tells_bound read_file header_reply head_size header_inputs header_count
    inputs_limit input_room records record_of frame stmt parse_from read_token operator fits judge value unary binary
pointing = (refl, refl, refl, refl, refl, refl, refl)

-- at place p a test of a constant below 256
abbrev test_of : (kind p n : ℕ) → List ℕ
test_of kind p n = 0x00 ∷ 0x08 ∷ kind ∷ 0xFF ∷ p ∷ 0x01 ∷ 0x00 ∷ 0x00 ∷ 0x00 ∷ n ∷ []

-- assert 0 at 0
abbrev fails_at_zero : List ℕ
fails_at_zero = 0x00 ∷ 0x08 ∷ 0x03 ∷ 0x00 ∷ 0x00 ∷ 0x01 ∷ 0x00 ∷ 0x00 ∷ 0x00 ∷ 0x00 ∷ []

-- any word but zero is true; places are not checked, 65535 too, and need not rise; 0 is one like any other
places : (judge_answer (trace_of 26 2 (test_of 3 0xFF 2 ++ test_of 3 0xFE 0)) [] ≡ unsafe_at 65534)
    × (judge_answer (trace_of 16 1 (test_of 3 0xFF 0)) [] ≡ unsafe_at 65535)
    × (judge_answer (trace_of 26 2 (test_of 2 0xFF 2 ++ test_of 3 0xFF 0)) [] ≡ unsafe_at 65535)
    × (judge_answer (trace_of 16 1 fails_at_zero) [] ≡ unsafe_at 0)
unfolding judge_answer read_trace is_trace trace_version old_version tells_bound read_file header_reply head_size header_inputs header_count
    inputs_limit input_room records record_of frame stmt parse_from read_token operator fits judge value
places = (refl, refl, refl, refl)

-- ---- limits

abbrev refused_at : (reply offset : ℕ) → Answer
refused_at reply offset = record { reply = reply; offset = offset; verdict = 0; place = 0 }

-- of S inputs: at 0 an assign of 0 to the symbol with these two bytes; at 9 an assert of that symbol
abbrev highest : (S high low : ℕ) → List ℕ
highest S high low =
    0x81 ∷ 0x00 ∷ 0x1A ∷ S ∷ 0x00 ∷ 0x02
    ∷ 0x00 ∷ 0x0A ∷ 0x01 ∷ 0x00 ∷ 0x00 ∷ high ∷ low ∷ 0x01 ∷ 0x00 ∷ 0x00 ∷ 0x00 ∷ 0x00
    ∷ 0x00 ∷ 0x06 ∷ 0x03 ∷ 0x00 ∷ 0x09 ∷ 0x03 ∷ high ∷ low ∷ []

-- an assigned symbol is below S + 4,096: S + 4,095 is assigned and read, S + 4,096 is 6
symbols : (judge_answer (highest 0 0x0F 0xFF) [] ≡ unsafe_at 9) × (judge_answer (highest 0 0x10 0x00) [] ≡ refused_at 6 6)
    × (judge_answer (highest 1 0x10 0x00) (7 ∷ []) ≡ unsafe_at 9) × (judge_answer (highest 1 0x10 0x01) (7 ∷ []) ≡ refused_at 6 6)
    × (judge_answer (highest 64 0x10 0x40) [] ≡ refused_at 6 6) × (judge_answer (highest 64 0x10 0x3F) [] ≡ refused_at 11 0)
unfolding judge_answer read_trace is_trace trace_version old_version tells_bound read_file header_reply head_size header_inputs header_count
    inputs_limit input_room records record_of frame stmt parse_from read_token operator fits judge value
symbols = (refl, refl, refl, refl, refl, refl)

-- of S inputs and no statements, by their version
abbrev empty : (version S : ℕ) → List ℕ
empty version S = version ∷ 0x00 ∷ 0x06 ∷ S ∷ 0x00 ∷ 0x00 ∷ []

-- a trace of either version has at most 64 inputs, and no other version is a trace's
inputs : (judge_answer (empty 0x81 64) [] ≡ refused_at 11 0) × (judge_answer (empty 0x81 65) [] ≡ refused_at 4 0)
    × (judge_answer (empty 0x82 64) [] ≡ refused_at 11 0) × (judge_answer (empty 0x82 65) [] ≡ refused_at 4 0)
unfolding judge_answer read_trace is_trace trace_version old_version tells_bound read_file header_reply head_size header_inputs header_count
    inputs_limit input_room records
inputs = (refl, refl, refl, refl)

versions : (v : ℕ) → (v ≡ 130 → ⊥) → (v ≡ 129 → ⊥) → judge_answer (empty v 0) [] ≡ refused_at 2 0
unfolding judge_answer read_trace is_trace trace_version old_version read_file header_reply head_size
versions v h k = rw (ne_eqb v 130 h, ne_eqb v 129 k)

-- at 7 an assert of symbol 0, so many times
abbrev asserts : ℕ → List ℕ
asserts zero = []
asserts (suc n) = 0x00 ∷ 0x06 ∷ 0x03 ∷ 0x00 ∷ 0x07 ∷ 0x03 ∷ 0x00 ∷ 0x00 ∷ asserts n

-- 4,096 statements, in 32,774 bytes: the last of them is an assert of symbol 1 at 8
abbrev most : List ℕ
most = 0x81 ∷ 0x80 ∷ 0x06 ∷ 0x02 ∷ 0x10 ∷ 0x00 ∷ asserts 4095 ++ 0x00 ∷ 0x06 ∷ 0x03 ∷ 0x00 ∷ 0x08 ∷ 0x03 ∷ 0x00 ∷ 0x01 ∷ []

-- and one more, in 32,782 bytes
abbrev too_many : List ℕ
too_many = 0x81 ∷ 0x80 ∷ 0x0E ∷ 0x02 ∷ 0x10 ∷ 0x01 ∷ asserts 4097

-- 4,096 statements are judged to the last, 4,097 are 4
statements : (length most ≡ 32774) × (judge_answer most (1 ∷ 0 ∷ []) ≡ unsafe_at 8)
    × (length too_many ≡ 32782) × (judge_answer too_many (1 ∷ 0 ∷ []) ≡ refused_at 4 0)
unfolding judge_answer read_trace is_trace trace_version old_version tells_bound read_file header_reply head_size header_inputs header_count
    inputs_limit input_room records record_of frame stmt parse_from read_token operator fits judge value
statements = (refl, refl, refl, refl)
