-- Valuations as the C job hands them, and each number that a call gives, in answers whose numbers differ: computed.
use Rattle.std.specs.Prelude.{ℕ, ◌≡◌, refl, List, [], ◌∷◌, map}
use Rattle.std.specs.Int.Count.{ones}
use Rattle.expr.specs.Word.{unary, binary}
use Rattle.expr.specs.Token.{operator, read_token}
use Rattle.expr.specs.Expr.{fits, parse_from}
use Rattle.expr.specs.Eval.{value}
use Rattle.file.specs.File.{header_reply, frame, record_of, records, read_file, encode}
use Rattle.table.specs.Table.{instr, read_table}
use Rattle.table.specs.Run.{run}
use Rattle.table.specs.Answer.{refusal}
use Rattle.table.specs.Cases.{small_rule, unsafe_at}
use Rattle.trace.specs.Trace.{stmt, read_trace}
use Rattle.trace.specs.Judge.{judge}
use Rattle.trace.specs.Answer as Judging
use Rattle.trace.specs.Cases as Judged
use Rattle.unwind.specs.Places.{places}
use Rattle.unwind.specs.Unwind.{unwind}
use Rattle.unwind.specs.Answer.{trace_answer}
use Rattle.slice.specs.Slice.{slice}
use Rattle.slice.specs.Answer.{slice_answer}
use Rattle.script.specs.Script.{violation, script_of}
use Rattle.script.specs.ScriptText.{script_text}
use Rattle.script.specs.Answer.{script_answer}
use Rattle.kadvitul.specs.Interface.{run_bytes, judge_bytes}
use Rattle.kadvitul.specs.Interface.{RunReply, RunOffset, RunVerdict, RunPlace, RunBackJumps, run_number}
use Rattle.kadvitul.specs.Interface.{JudgeReply, JudgeOffset, JudgeVerdict, JudgePlace, judge_number}
use Rattle.kadvitul.specs.Interface.{TraceReply, TraceOffset, TraceLength, trace_number}
use Rattle.kadvitul.specs.Interface.{SliceReply, SliceOffset, SliceLength, SliceMask, SliceInputs, slice_number}
use Rattle.kadvitul.specs.Interface.{ScriptReply, ScriptOffset, ScriptLength, script_number}
use Rattle.file.specs.File.{head_size, header_inputs, header_count, inputs_limit, input_room, header}
use Rattle.table.specs.Table.{is_table}
use Rattle.trace.specs.Trace.{is_trace, trace_version, old_version, tells_bound}

-- m3; any other length than 4 × S is 11; 8 comes before it
runs : (run_bytes small_rule 1 (0x00 ∷ 0x00 ∷ 0x00 ∷ 0x01 ∷ []) ≡ unsafe_at 8 1) × (run_bytes small_rule 1 (0x00 ∷ []) ≡ refusal 11 0)
    × (run_bytes small_rule 1 (0x00 ∷ 0x00 ∷ 0x00 ∷ []) ≡ refusal 11 0)
    × (run_bytes small_rule 1 (0x00 ∷ 0x00 ∷ 0x00 ∷ 0x01 ∷ 0x00 ∷ []) ≡ refusal 11 0)
    × (run_bytes small_rule 256 [] ≡ refusal 8 0) × (run_bytes [] 256 [] ≡ refusal 1 0)
unfolding run_bytes read_table is_table read_file header_reply head_size header_inputs header_count inputs_limit input_room records
    record_of frame
    instr parse_from read_token operator fits run value unary binary
runs = (refl, refl, refl, refl, refl, refl)

-- m12
judges : (judge_bytes Judged.example (0x00 ∷ 0x00 ∷ 0x00 ∷ 0x05 ∷ []) ≡ Judged.ended)
    × (judge_bytes Judged.example (0x00 ∷ 0x00 ∷ 0x00 ∷ 0x0A ∷ []) ≡ Judged.unsafe_at 1)
    × (judge_bytes Judged.example (0x0A ∷ []) ≡ Judging.refusal 11 0)
    × (judge_bytes Judged.example (0x00 ∷ 0x00 ∷ 0x00 ∷ 0x05 ∷ 0x00 ∷ []) ≡ Judging.refusal 11 0)
    × (judge_bytes Judged.example (0x00 ∷ 0x00 ∷ 0x00 ∷ 0x05 ∷ 0x00 ∷ 0x00 ∷ 0x00 ∷ 0x05 ∷ []) ≡ Judging.refusal 11 0)
unfolding judge_bytes read_trace is_trace trace_version old_version tells_bound read_file header_reply head_size header_inputs header_count
    inputs_limit input_room records
    record_of frame stmt parse_from read_token operator fits judge value unary binary
judges = (refl, refl, refl, refl, refl)

-- ---- each number by its name

-- no input, no statement
abbrev empty_trace : List ℕ
empty_trace = 0x82 ∷ 0x00 ∷ 0x06 ∷ 0x00 ∷ 0x00 ∷ 0x00 ∷ []

-- (0) assert s0 of one input, but the record's length passes the end: refused 5 at 6
abbrev cut_table : List ℕ
cut_table = 0x01 ∷ 0x00 ∷ 0x0B ∷ 0x01 ∷ 0x00 ∷ 0x01 ∷ 0x00 ∷ 0x04 ∷ 0x03 ∷ 0x02 ∷ 0x00 ∷ []

-- the small rule from s0 = 2 under K = 3: unsafe at 2 × 5 + 3, after 2 back jumps
run-numbers : (map (λ w. run_number w (run_bytes small_rule 3 (0x00 ∷ 0x00 ∷ 0x00 ∷ 0x02 ∷ [])))
    (RunReply ∷ RunOffset ∷ RunVerdict ∷ RunPlace ∷ RunBackJumps ∷ [])
    ≡ 0 ∷ 0 ∷ 1 ∷ 13 ∷ 2 ∷ [])
    × (map (λ w. run_number w (run_bytes cut_table 3 [])) (RunReply ∷ RunOffset ∷ RunVerdict ∷ RunPlace ∷ RunBackJumps ∷ []) ≡ 5 ∷ 6 ∷ 0 ∷ 0
    ∷ 0 ∷ [])
unfolding run_bytes read_table is_table read_file header_reply head_size header_inputs header_count inputs_limit input_room records
    record_of frame
    instr parse_from read_token operator fits run value unary binary
run-numbers = (refl, refl)

-- of three inputs: (7) assume s0; (9) assert s2; (11) assert s1
abbrev three_tests : List ℕ
three_tests =
    0x81 ∷ 0x00 ∷ 0x1E ∷ 0x03 ∷ 0x00 ∷ 0x03
    ∷ 0x00 ∷ 0x06 ∷ 0x02 ∷ 0x00 ∷ 0x07 ∷ 0x03 ∷ 0x00 ∷ 0x00
    ∷ 0x00 ∷ 0x06 ∷ 0x03 ∷ 0x00 ∷ 0x09 ∷ 0x03 ∷ 0x00 ∷ 0x02
    ∷ 0x00 ∷ 0x06 ∷ 0x03 ∷ 0x00 ∷ 0x0B ∷ 0x03 ∷ 0x00 ∷ 0x01 ∷ []

-- of three inputs: (9) assert s2; (11) assert s1; (7) assume s0
abbrev assumed_last : List ℕ
assumed_last =
    0x81 ∷ 0x00 ∷ 0x1E ∷ 0x03 ∷ 0x00 ∷ 0x03
    ∷ 0x00 ∷ 0x06 ∷ 0x03 ∷ 0x00 ∷ 0x09 ∷ 0x03 ∷ 0x00 ∷ 0x02
    ∷ 0x00 ∷ 0x06 ∷ 0x03 ∷ 0x00 ∷ 0x0B ∷ 0x03 ∷ 0x00 ∷ 0x01
    ∷ 0x00 ∷ 0x06 ∷ 0x02 ∷ 0x00 ∷ 0x07 ∷ 0x03 ∷ 0x00 ∷ 0x00 ∷ []

-- (9) assert s3, of three inputs and no assigned symbol, behind a right record: refused 7 at 14
abbrev broken_trace : List ℕ
broken_trace =
    0x81 ∷ 0x00 ∷ 0x16 ∷ 0x03 ∷ 0x00 ∷ 0x02
    ∷ 0x00 ∷ 0x06 ∷ 0x03 ∷ 0x00 ∷ 0x09 ∷ 0x03 ∷ 0x00 ∷ 0x02
    ∷ 0x00 ∷ 0x06 ∷ 0x03 ∷ 0x00 ∷ 0x09 ∷ 0x03 ∷ 0x00 ∷ 0x03 ∷ []

judge-numbers : (map (λ w. judge_number w (judge_bytes three_tests
    (0x00 ∷ 0x00 ∷ 0x01 ∷ 0x00 ∷ 0x00 ∷ 0x00 ∷ 0x00 ∷ 0x00 ∷ 0x01 ∷ 0x00 ∷ 0x00
    ∷ 0x00 ∷ [])))
    (JudgeReply ∷ JudgeOffset ∷ JudgeVerdict ∷ JudgePlace ∷ []) ≡ 0 ∷ 0 ∷ 1 ∷ 11 ∷ [])
    × (map (λ w. judge_number w (judge_bytes broken_trace [])) (JudgeReply ∷ JudgeOffset ∷ JudgeVerdict ∷ JudgePlace ∷ []) ≡ 7 ∷ 19 ∷ 0 ∷ 0
    ∷ [])
unfolding judge_bytes read_trace is_trace trace_version old_version tells_bound read_file header_reply head_size header_inputs header_count
    inputs_limit input_room records
    record_of frame stmt parse_from read_token operator fits judge value unary binary
judge-numbers = (refl, refl)

-- m5; and a room of 155 bytes
trace_numbers : (map (λ w. trace_number w (trace_answer small_rule 0 200)) (TraceReply ∷ TraceOffset ∷ TraceLength ∷ []) ≡ 0 ∷ 0 ∷ 156 ∷ [])
    × (map (λ w. trace_number w (trace_answer small_rule 0 155)) (TraceReply ∷ TraceOffset ∷ TraceLength ∷ []) ≡ 10 ∷ 0 ∷ 0 ∷ [])
    × (map (λ w. trace_number w (trace_answer cut_table 0 200)) (TraceReply ∷ TraceOffset ∷ TraceLength ∷ []) ≡ 5 ∷ 6 ∷ 0 ∷ [])
unfolding trace_answer trace_version read_table is_table read_file header_reply head_size header_inputs header_count inputs_limit input_room
    records
    record_of frame instr parse_from read_token operator fits unwind places encode header
trace_numbers = (refl, refl, refl)

-- two Asserts are kept: 22 bytes that read s1 and s2
slice-numbers : (map (λ w. slice_number w (slice_answer assumed_last 22))
    (SliceReply ∷ SliceOffset ∷ SliceLength ∷ SliceMask ∷ SliceInputs ∷ []) ≡ 0 ∷ 0 ∷ 22 ∷ 6 ∷ 2 ∷ [])
    × (map (λ w. slice_number w (slice_answer broken_trace 22)) (SliceReply ∷ SliceOffset ∷ SliceLength ∷ SliceMask ∷ SliceInputs ∷ []) ≡ 7
    ∷ 19 ∷ 0 ∷ 0 ∷ 0 ∷ [])
unfolding slice_answer read_trace is_trace trace_version old_version tells_bound read_file header_reply head_size header_inputs header_count
    inputs_limit input_room records
    record_of frame stmt parse_from read_token operator fits slice encode header ones
slice-numbers = (refl, refl)

-- no input and no statement: 45 letters; and a room of 44
script_numbers : (map (λ w. script_number w (script_answer empty_trace 45)) (ScriptReply ∷ ScriptOffset ∷ ScriptLength ∷ [])
    ≡ 0 ∷ 0 ∷ 45 ∷ [])
    × (map (λ w. script_number w (script_answer empty_trace 44)) (ScriptReply ∷ ScriptOffset ∷ ScriptLength ∷ []) ≡ 10 ∷ 0 ∷ 0 ∷ [])
    × (map (λ w. script_number w (script_answer broken_trace 45)) (ScriptReply ∷ ScriptOffset ∷ ScriptLength ∷ []) ≡ 7 ∷ 19 ∷ 0 ∷ [])
unfolding script_answer read_trace is_trace trace_version old_version tells_bound read_file header_reply head_size header_inputs
    header_count
    inputs_limit input_room records record_of frame stmt parse_from read_token operator fits violation script_of script_text
script_numbers = (refl, refl, refl)
