-- Document 01, "A small rule, worked": the marked cases m1 to m12, as one list under one statement: what is defined answers each case as
-- the document does. All answers are computed at once.
use Rattle.std.specs.Prelude.{ℕ, ◌≡◌, refl, List, [], ◌∷◌, map}
use Rattle.std.specs.Int.Count.{ones}
use Rattle.expr.specs.Lists.{All}
use Rattle.expr.specs.declared.word.Binary.{Binary}
use Rattle.expr.specs.declared.word.Binary.TheVariants.{Sub, Mul, Udiv, Urem, Shl, Ult, Slt}
use Rattle.expr.specs.Word.{signed, unary, binary}
use Rattle.expr.specs.declared.token.Token.TheVariants.{Const, Bin}
use Rattle.expr.specs.Token.{operator, read_token}
use Rattle.expr.specs.Expr.{fits, parse_from}
use Rattle.expr.specs.Eval.{env_of, value}
use Rattle.file.specs.File.{header_count, header_reply, frame, record_of, records, read_file, encode}
use Rattle.table.specs.Table.{instr, read_table}
use Rattle.table.specs.Run.{run}
use Rattle.table.specs.Answer.{run_answer}
use Rattle.table.specs.Cases.{small_rule}
use Rattle.trace.specs.Trace.{stmt, read_trace}
use Rattle.trace.specs.Judge.{judge}
use Rattle.trace.specs.Answer.{judge_answer}
use Rattle.trace.specs.Cases.{example}
use Rattle.unwind.specs.Places.{places}
use Rattle.unwind.specs.Unwind.{unwind}
use Rattle.unwind.specs.Answer.{Traced, trace_answer}
use Rattle.slice.specs.Slice.{slice}
use Rattle.slice.specs.Answer.{Sliced, slice_answer}
use Rattle.file.specs.File.{head_size, header_inputs, inputs_limit, input_room, header}
use Rattle.table.specs.Table.{is_table}
use Rattle.trace.specs.Trace.{is_trace, trace_version, old_version, tells_bound}

-- ---- what is asked, and what is answered

pub data Question : Type 0 where
  Run : (table : List ℕ) (K : ℕ) (words : List ℕ) → Question
  Judge : (trace words : List ℕ) → Question
  TraceOf : (table : List ℕ) (K : ℕ) → Question
  SliceOf : (table : List ℕ) (K : ℕ) → Question
  Compute : (left : ℕ) → Binary → (right : ℕ) → Question

-- the numbers that a call answers; beside those of a written trace or slice, the statements that its header counts
pub data Told : Type 0 where
  Ran : Rattle.table.specs.declared.Answer.Answer → Told
  Judged : Rattle.trace.specs.declared.Answer.Answer → Told
  Wrote : (statements : ℕ) → Rattle.write.specs.declared.Written.Written → Told
  Kept : (statements : ℕ) → Rattle.slice.specs.declared.Answer.Answer → Told
  Word : ℕ → Told

abbrev pub wrote : Traced → Told
wrote q = Wrote (header_count q.bytes) (Rattle.unwind.specs.Answer.numbers q)

abbrev pub kept : Sliced → Told
kept q = Kept (header_count q.bytes) (Rattle.slice.specs.Answer.numbers q)

-- a trace is written into a buffer of 65,535 bytes, and so is the slice of the written bytes
abbrev pub answer : Question → Told
answer (Run table K words) = Ran (run_answer table K words)
answer (Judge trace words) = Judged (judge_answer trace words)
answer (TraceOf table K) = wrote (trace_answer table K 65535)
answer (SliceOf table K) = kept (slice_answer (trace_answer table K 65535).bytes 65535)
answer (Compute left o right) = Word (value (env_of []) (Const left ∷ Const right ∷ Bin o ∷ []))

-- ---- answers with reply 0

abbrev pub ended : (back_jumps : ℕ) → Told
ended r = Ran (Rattle.table.specs.Cases.ended r)

abbrev pub cut : (back_jumps : ℕ) → Told
cut r = Ran (Rattle.table.specs.Cases.cut r)

abbrev pub unsafe_at : (place back_jumps : ℕ) → Told
unsafe_at p r = Ran (Rattle.table.specs.Cases.unsafe_at p r)

abbrev pub judged_ended : Told
judged_ended = Judged Rattle.trace.specs.Cases.ended

abbrev pub judged_unsafe_at : (place : ℕ) → Told
judged_unsafe_at p = Judged (Rattle.trace.specs.Cases.unsafe_at p)

abbrev pub traced : (statements bytes : ℕ) → Told
traced n size = Wrote n (record { reply = 0; offset = 0; length = size })

abbrev pub sliced : (statements bytes mask count : ℕ) → Told
sliced n size mask count = Kept n (record { reply = 0; offset = 0; length = size; mask = mask; inputs = count })

-- ---- the marked cases

pub data Case : Type 0 where
  m : (number : ℕ) → Question → Told → Case

abbrev pub empty_table : List ℕ
empty_table = 0x01 ∷ 0x00 ∷ 0x06 ∷ 0x00 ∷ 0x00 ∷ 0x00 ∷ []

abbrev pub marked : List Case
marked =
    -- x=0, K=0: unsafe at 3, 0 back jumps
    m 1 (Run small_rule 0 (0 ∷ [])) (unsafe_at 3 0)
    -- x=1, K=0: cut, 0 (2026-01; before: safe)
    ∷ m 2 (Run small_rule 0 (1 ∷ [])) (cut 0)
    -- x=1, K=1: unsafe at 8, 1
    ∷ m 3 (Run small_rule 1 (1 ∷ [])) (unsafe_at 8 1)
    -- x=2, K=1: cut, 1 (2026-01; before: safe)
    ∷ m 4 (Run small_rule 1 (2 ∷ [])) (cut 1)
    -- for K=0 the trace has 6 statements, 156 bytes
    ∷ m 5 (TraceOf small_rule 0) (traced 6 156)
    -- the slice has 102 bytes, mask 1, count 1; its 4 statements are those that the printer shows
    ∷ m 5 (SliceOf small_rule 0) (sliced 4 102 1 1)
    -- for K=1 the trace has 302 bytes; 1 + (K+1)×(n+1) is 11
    ∷ m 5 (TraceOf small_rule 1) (traced 11 302)
    -- 0 sub 1 = 4294967295
    ∷ m 6 (Compute 0 Sub 1) (Word 4294967295)
    -- 65536 mul 65536 = 0
    ∷ m 7 (Compute 65536 Mul 65536) (Word 0)
    -- 7 udiv 0 = 4294967295; 7 urem 0 = 7
    ∷ m 8 (Compute 7 Udiv 0) (Word 4294967295)
    ∷ m 8 (Compute 7 Urem 0) (Word 7)
    -- 1 shl 31 = 2147483648; 1 shl 32 = 0
    ∷ m 9 (Compute 1 Shl 31) (Word 2147483648)
    ∷ m 9 (Compute 1 Shl 32) (Word 0)
    -- 2147483648 slt 0 = 1, ult = 0
    ∷ m 10 (Compute 2147483648 Slt 0) (Word 1)
    ∷ m 10 (Compute 2147483648 Ult 0) (Word 0)
    -- table 01 00 06 00 00 00, K=0: ended; its trace has 2 statements, 43 bytes, and its slice none, 6 bytes
    ∷ m 11 (Run empty_table 0 []) (ended 0)
    ∷ m 11 (TraceOf empty_table 0) (traced 2 43)
    ∷ m 11 (SliceOf empty_table 0) (sliced 0 6 0 0)
    -- 000's example: s1 = s0 + 1, assert s1 ult 10: ended for 5, unsafe for 10; places 0 and 1 are our choice
    ∷ m 12 (Judge example (5 ∷ [])) judged_ended
    ∷ m 12 (Judge example (10 ∷ [])) (judged_unsafe_at 1)
    ∷ []

-- ---- every marked case holds

abbrev pub Holds : Case → Type 0
Holds (m number question told) = answer question ≡ told

abbrev answered : Case → Told
answered (m number question told) = answer question

abbrev stated : Case → Told
stated (m number question told) = told

-- where the two lists of answers are equal, each case holds
all_hold : (cs : List Case) → map answered cs ≡ map stated cs → All Holds cs
all_hold [] h = tt
all_hold (m number question told ∷ cs) h = (cc, all_hold cs cc)

pub marked_hold : All Holds marked
unfolding run_answer read_table is_table read_file header_reply head_size header_inputs header_count inputs_limit input_room records
    record_of frame
    instr parse_from read_token operator fits run value unary binary signed judge_answer read_trace is_trace trace_version
    old_version tells_bound stmt
    judge trace_answer unwind places encode header slice_answer slice ones
marked_hold = all_hold marked refl
