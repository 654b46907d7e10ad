-- Document 01, "How much each public call must say": any two answers, and buffers afterwards, that meet a call's statement are equal. Each
-- statement is the one that stands in the call's `ensures`: a weaker one would break its theorem here.
use Rattle.std.specs.Prelude.{ℕ, ◌≡◌, refl, List}
use Rattle.std.proofs.Common.{arith, sym, ◌∙◌}
use Rattle.std.proofs.Math.Decide.{dec_lt}
use Rattle.table.specs.declared.Answer as Ran
use Rattle.table.specs.Answer.{RunAnswered}
use Rattle.trace.specs.declared.Answer as Judged
use Rattle.trace.specs.Answer.{JudgeAnswered}
use Rattle.write.specs.declared.Written.{Written}
use Rattle.unwind.specs.Answer.{TraceWritten}
use Rattle.slice.specs.declared.Answer as Sliced
use Rattle.slice.specs.Answer.{SliceWritten}
use Rattle.script.specs.Answer.{ScriptWritten}
use Rattle.show.specs.Answer.{SliceShown}
use Rattle.kadvitul.specs.Interface.{VersionGives, RunNumber, RunGives, JudgeNumber, JudgeGives, TraceNumber, TraceGives, SliceNumber}
use Rattle.kadvitul.specs.Interface.{SliceGives, ScriptNumber, ScriptGives}
use Rattle.demands.specs.Replies.{Call, Demand1}

-- ---- demand 1 leaves no choice

-- two replies with their offsets that meet it for one call are equal
pub replies_determined : (c : Call) (reply at reply' at' : ℕ) → Demand1 c reply at → Demand1 c reply' at' → (reply ≡ reply') × (at ≡ at')
replies_determined c reply at reply' at' h k =
    elim (dec_lt 0 reply) [
      | yes l ↦
          let row = (h.refused reply at l).0 (refl, refl) in
          let same = (k.refused reply at l).1 row in (sym same.0, sym same.1)
      | no l ↦
          let done : reply ≡ 0 = omega arith in
          let done' : reply' ≡ 0 = k.done.1 (h.done.0 done) in (done ∙ sym done', h.done-offset done ∙ sym (k.done-offset done'))
    ]

-- ---- the library's calls

-- `run`, which is lent nothing to change
pub run_determined : (table : List ℕ) (K : ℕ) (words : List ℕ) (r r' : Ran.Answer) → RunAnswered table K words r
    → RunAnswered table K words r' → r ≡ r'
run_determined table K words r r' h k = h.answer ∙ sym k.answer

-- `judge`, which is lent nothing to change
pub judge_determined : (trace words : List ℕ) (r r' : Judged.Answer) → JudgeAnswered trace words r → JudgeAnswered trace words r' → r ≡ r'
judge_determined trace words r r' h k = h.answer ∙ sym k.answer

-- `write_trace`: the answer, and what the buffer `out` holds afterwards
pub write_trace_determined : (table : List ℕ) (K : ℕ) (out o o' : List ℕ) (r r' : Written)
    → TraceWritten table K out o r → TraceWritten table K out o' r' → (r ≡ r') × (o ≡ o')
write_trace_determined table K out o o' r r' h k = (h.answer ∙ sym k.answer, h.buffer ∙ sym k.buffer)

-- `slice_trace`: the answer, and what the buffer `out` holds afterwards
pub slice_trace_determined : (trace out o o' : List ℕ) (r r' : Sliced.Answer)
    → SliceWritten trace out o r → SliceWritten trace out o' r' → (r ≡ r') × (o ≡ o')
slice_trace_determined trace out o o' r r' h k = (h.answer ∙ sym k.answer, h.buffer ∙ sym k.buffer)

-- `write_script`: the answer, and what the buffer `out` holds afterwards
pub write_script_determined : (trace out o o' : List ℕ) (r r' : Written)
    → ScriptWritten trace out o r → ScriptWritten trace out o' r' → (r ≡ r') × (o ≡ o')
write_script_determined trace out o o' r r' h k = (h.answer ∙ sym k.answer, h.buffer ∙ sym k.buffer)

-- `show_slice`: the answer, and what the buffer `out` holds afterwards
pub show_slice_determined : (input out o o' : List ℕ) (r r' : Written)
    → SliceShown input out o r → SliceShown input out o' r' → (r ≡ r') × (o ≡ o')
show_slice_determined input out o o' r r' h k = (h.answer ∙ sym k.answer, h.buffer ∙ sym k.buffer)

-- ---- the calls from C, each for its number

-- `kadvitul_version`
pub version_determined : (r r' : ℕ) → VersionGives r → VersionGives r' → r ≡ r'
version_determined r r' h k = h.number ∙ sym k.number

-- `kadvitul_run_*`
pub run_gives_determined : (which : RunNumber) (table : List ℕ) (K : ℕ) (valuation : List ℕ) (r r' : ℕ)
    → RunGives which table K valuation r → RunGives which table K valuation r' → r ≡ r'
run_gives_determined which table K valuation r r' h k = h.number ∙ sym k.number

-- `kadvitul_judge_*`
pub judge_gives_determined : (which : JudgeNumber) (trace valuation : List ℕ) (r r' : ℕ)
    → JudgeGives which trace valuation r → JudgeGives which trace valuation r' → r ≡ r'
judge_gives_determined which trace valuation r r' h k = h.number ∙ sym k.number

-- `kadvitul_trace_*`
pub trace_gives_determined : (which : TraceNumber) (table : List ℕ) (K : ℕ) (out o o' : List ℕ) (r r' : ℕ)
    → TraceGives which table K out o r → TraceGives which table K out o' r' → (r ≡ r') × (o ≡ o')
trace_gives_determined which table K out o o' r r' h k = (h.number ∙ sym k.number, h.buffer ∙ sym k.buffer)

-- `kadvitul_slice_*`
pub slice_gives_determined : (which : SliceNumber) (trace out o o' : List ℕ) (r r' : ℕ)
    → SliceGives which trace out o r → SliceGives which trace out o' r' → (r ≡ r') × (o ≡ o')
slice_gives_determined which trace out o o' r r' h k = (h.number ∙ sym k.number, h.buffer ∙ sym k.buffer)

-- `kadvitul_script_*`
pub script_gives_determined : (which : ScriptNumber) (trace out o o' : List ℕ) (r r' : ℕ)
    → ScriptGives which trace out o r → ScriptGives which trace out o' r' → (r ≡ r') × (o ≡ o')
script_gives_determined which trace out o o' r r' h k = (h.number ∙ sym k.number, h.buffer ∙ sym k.buffer)
