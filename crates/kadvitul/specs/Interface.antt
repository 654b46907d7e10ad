-- Document 01, "What is built": the C job hands a valuation as 4×S big-endian bytes; any other length is refusal 11. Each call returns
-- one number of the answer.
use Rattle.std.specs.Prelude.{ℕ, ◌*◌, ◌≡◌, cond, List, length, eqb, leb}
use Rattle.file.specs.File.{Input, Accepted, Refused}
use Rattle.file.specs.Words.{words_of}
use Rattle.table.specs.declared.Answer.{Answer}
use Rattle.trace.specs.declared.Answer as Judged
use Rattle.table.specs.Table.{Instr, read_table}
use Rattle.table.specs.Run.{run}
use Rattle.table.specs.Answer.{refusal, answer_of}
use Rattle.expr.specs.Eval.{env_of}
use Rattle.trace.specs.Trace.{Stmt, read_trace}
use Rattle.trace.specs.Judge.{judge}
use Rattle.trace.specs.Answer as Judging
use Rattle.write.specs.Splice.{over}
use Rattle.unwind.specs.Answer.{Traced, trace_answer}
use Rattle.slice.specs.Answer.{Sliced, slice_answer}
use Rattle.script.specs.Answer.{Exported, script_answer}

abbrev pub answered_bytes : (K : ℕ) (valuation : List ℕ) → Input Instr → Answer
answered_bytes K valuation (Refused reply offset) = refusal reply offset
answered_bytes K valuation (Accepted head is) =
    cond (leb K 255)
    (cond (eqb (length valuation) (4 * head.inputs)) (answer_of (run is K (words_of head.inputs valuation))) (refusal 11 0))
    (refusal 8 0)

unfoldable pub run_bytes : (table : List ℕ) (K : ℕ) (valuation : List ℕ) → Answer
run_bytes table K valuation = answered_bytes K valuation (read_table table)

abbrev pub judged_bytes : (valuation : List ℕ) → Input Stmt → Judged.Answer
judged_bytes valuation (Refused reply offset) = Judging.refusal reply offset
judged_bytes valuation (Accepted head ts) =
    cond (eqb (length valuation) (4 * head.inputs)) (Judging.answer_of (judge ts (env_of (words_of head.inputs valuation))))
    (Judging.refusal 11 0)

unfoldable pub judge_bytes : (trace valuation : List ℕ) → Judged.Answer
judge_bytes trace valuation = judged_bytes valuation (read_trace trace)

-- ---- the numbers that the calls give, one each

-- the archive's version, 4.0.0: 10,000 times the first number, 100 times the second, and the third
abbrev pub archive_version : ℕ
archive_version = 40000

pub data RunNumber : Type 0 where
  RunReply RunOffset RunVerdict RunPlace RunBackJumps : RunNumber

abbrev pub run_number : RunNumber → Answer → ℕ
run_number RunReply a = a.reply
run_number RunOffset a = a.offset
run_number RunVerdict a = a.verdict
run_number RunPlace a = a.place
run_number RunBackJumps a = a.back_jumps

pub data JudgeNumber : Type 0 where
  JudgeReply JudgeOffset JudgeVerdict JudgePlace : JudgeNumber

abbrev pub judge_number : JudgeNumber → Judged.Answer → ℕ
judge_number JudgeReply a = a.reply
judge_number JudgeOffset a = a.offset
judge_number JudgeVerdict a = a.verdict
judge_number JudgePlace a = a.place

pub data TraceNumber : Type 0 where
  TraceReply TraceOffset TraceLength : TraceNumber

abbrev pub trace_number : TraceNumber → Traced → ℕ
trace_number TraceReply q = q.reply
trace_number TraceOffset q = q.offset
trace_number TraceLength q = length q.bytes

pub data SliceNumber : Type 0 where
  SliceReply SliceOffset SliceLength SliceMask SliceInputs : SliceNumber

abbrev pub slice_number : SliceNumber → Sliced → ℕ
slice_number SliceReply q = q.reply
slice_number SliceOffset q = q.offset
slice_number SliceLength q = length q.bytes
slice_number SliceMask q = q.mask
slice_number SliceInputs q = q.inputs

pub data ScriptNumber : Type 0 where
  ScriptReply ScriptOffset ScriptLength : ScriptNumber

abbrev pub script_number : ScriptNumber → Exported → ℕ
script_number ScriptReply q = q.reply
script_number ScriptOffset q = q.offset
script_number ScriptLength q = length q.bytes

-- ---- what each call gives, and what it leaves in the buffer

pub record VersionGives (r : ℕ) : Type 0 where
  pub number : r ≡ archive_version

pub record RunGives (which : RunNumber) (table : List ℕ) (K : ℕ) (valuation : List ℕ) (r : ℕ) : Type 0 where
  pub number : r ≡ run_number which (run_bytes table K valuation)

pub record JudgeGives (which : JudgeNumber) (trace valuation : List ℕ) (r : ℕ) : Type 0 where
  pub number : r ≡ judge_number which (judge_bytes trace valuation)

-- each call for a trace, a slice or a script writes it: the bytes of the answer from the first byte on, and the rest as it was
pub record TraceGives (which : TraceNumber) (table : List ℕ) (K : ℕ) (out out' : List ℕ) (r : ℕ) : Type 0 where
  pub number : r ≡ trace_number which (trace_answer table K (length out))
  pub buffer : out' ≡ over (trace_answer table K (length out)).bytes out

pub record SliceGives (which : SliceNumber) (trace out out' : List ℕ) (r : ℕ) : Type 0 where
  pub number : r ≡ slice_number which (slice_answer trace (length out))
  pub buffer : out' ≡ over (slice_answer trace (length out)).bytes out

pub record ScriptGives (which : ScriptNumber) (trace out out' : List ℕ) (r : ℕ) : Type 0 where
  pub number : r ≡ script_number which (script_answer trace (length out))
  pub buffer : out' ≡ over (script_answer trace (length out)).bytes out
