-- Document 01, "Numbered replies": a refusal says ended, its other numbers are 0 and its buffer is as it was; all verdicts but unsafe
-- have place 0.
use Rattle.std.specs.Prelude.{◌≡◌, List, ℕ}
use Rattle.table.specs.declared.Answer as Ran
use Rattle.trace.specs.declared.Answer as Judged
use Rattle.write.specs.declared.Written.{Written}
use Rattle.unwind.specs.Answer.{Traced}
use Rattle.slice.specs.declared.Answer as Kept
use Rattle.slice.specs.Answer.{Sliced}
use Rattle.script.specs.Answer as Script
use Rattle.kadvitul.specs.Interface.{TraceReply, TraceLength, trace_number, SliceReply, SliceLength, SliceMask, SliceInputs, slice_number}
use Rattle.kadvitul.specs.Interface.{ScriptReply, ScriptLength, script_number}

-- running, by `run` or from C
pub record RunRest (a : Ran.Answer) : Type 0 where
  pub refused : (a.reply ≡ 0 → ⊥) → (a.verdict ≡ 0) × (a.place ≡ 0) × (a.back_jumps ≡ 0)
  pub placeless : (a.verdict ≡ 1 → ⊥) → a.place ≡ 0

-- judging, by `judge` or from C
pub record JudgeRest (a : Judged.Answer) : Type 0 where
  pub refused : (a.reply ≡ 0 → ⊥) → (a.verdict ≡ 0) × (a.place ≡ 0)
  pub placeless : (a.verdict ≡ 1 → ⊥) → a.place ≡ 0

-- `write_trace`, with its buffer before and after
abbrev pub TraceRest : (out out' : List ℕ) → Written → Type 0
TraceRest out out' r = (r.reply ≡ 0 → ⊥) → (r.length ≡ 0) × (out' ≡ out)

-- `slice_trace`, likewise
abbrev pub SliceRest : (out out' : List ℕ) → Kept.Answer → Type 0
SliceRest out out' r = (r.reply ≡ 0 → ⊥) → (r.length ≡ 0) × (r.mask ≡ 0) × (r.inputs ≡ 0) × (out' ≡ out)

-- `write_script`, likewise
abbrev pub ScriptRest : (out out' : List ℕ) → Written → Type 0
ScriptRest out out' r = (r.reply ≡ 0 → ⊥) → (r.length ≡ 0) × (out' ≡ out)

-- any call from C that writes a trace, a slice or a script, of which the calls give the numbers
abbrev pub TraceGivesRest : Traced → (out out' : List ℕ) → Type 0
TraceGivesRest q out out' = (trace_number TraceReply q ≡ 0 → ⊥) → (out' ≡ out) × (trace_number TraceLength q ≡ 0)

abbrev pub SliceGivesRest : Sliced → (out out' : List ℕ) → Type 0
SliceGivesRest q out out' =
    (slice_number SliceReply q ≡ 0 → ⊥) → (out' ≡ out) × (slice_number SliceLength q ≡ 0) × (slice_number SliceMask q ≡ 0)
    × (slice_number SliceInputs q ≡ 0)

abbrev pub ScriptGivesRest : Script.Exported → (out out' : List ℕ) → Type 0
ScriptGivesRest q out out' = (script_number ScriptReply q ≡ 0 → ⊥) → (out' ≡ out) × (script_number ScriptLength q ≡ 0)
