-- What the user has been promised, as one list. Each line is a theorem on bytes, over the answers that the calls are proved to give;
-- `proofs/Promised.antt` proves it. With the contracts of the calls, this page and the definitions that it names are what a reader
-- believes.
use Rattle.std.specs.Prelude.{ℕ, ◌≤◌, ◌≡◌, ◌⊎◌, Bool, List, length}
use Rattle.expr.specs.declared.File.{File}
use Rattle.expr.specs.Lists.{All}
use Rattle.expr.specs.Number.{Byte}
use Rattle.write.specs.declared.Written.{Written}
use Rattle.unwind.specs.Answer.{trace_answer, TraceWritten}
use Rattle.slice.specs.declared.Answer as Kept
use Rattle.slice.specs.Answer.{slice_answer, SliceWritten}
use Rattle.script.specs.Answer.{script_answer, ScriptWritten}
use Rattle.kadvitul.specs.Interface.{TraceNumber, TraceGives, SliceNumber, SliceGives, ScriptNumber, ScriptGives}
use Rattle.demands.specs.Valuation.{Handed, ran_with, judged_with}
use Rattle.demands.specs.Expression.{IsExpr, BreaksAt}
use Rattle.demands.specs.Replies.{Run, Judge, WriteTrace, SliceTrace, WriteScript, Demand1}
use Rattle.demands.specs.Refusals.{RunRest, JudgeRest, TraceRest, SliceRest, ScriptRest, TraceGivesRest, SliceGivesRest}
use Rattle.demands.specs.Refusals.{ScriptGivesRest}
use Rattle.demands.specs.Demand3.{Demand3}
use Rattle.demands.specs.Solver.{Posed, Solver}
use Rattle.demands.specs.Raising.{RunsRaised, TracesRaised, Settled}

pub record Promised : Type 0 where
  -- demand 1: a numbered refusal exactly when its row is the first that holds
  pub run_replies : (h : Handed) (t : List ℕ) (K : ℕ) (v : List ℕ)
      → Demand1 (Run h t K v) (ran_with h t K v).reply (ran_with h t K v).offset
  pub judge_replies : (h : Handed) (t v : List ℕ)
      → Demand1 (Judge h t v) (judged_with h t v).reply (judged_with h t v).offset
  pub trace_replies : (t : List ℕ) (K room : ℕ) → Demand1 (WriteTrace t K room) (trace_answer t K room).reply
      (trace_answer t K room).offset
  pub slice_replies : (t : List ℕ) (room : ℕ) → Demand1 (SliceTrace t room) (slice_answer t room).reply
      (slice_answer t room).offset
  pub script_replies : (t : List ℕ) (room : ℕ) → Demand1 (WriteScript t room) (script_answer t room).reply
      (script_answer t room).offset
  -- request 2026-08: an expression keeps its rules to its end or breaks them at some byte, not both, and not at two
  pub keeps_or_breaks : (F : File) (may : ℕ → Bool) (e : List ℕ) → IsExpr F may e ⊎ ((i : ℕ) × BreaksAt F may e i)
  pub keeps_not_breaks : (F : File) (may : ℕ → Bool) (e : List ℕ) → IsExpr F may e → (i : ℕ) → BreaksAt F may e i → ⊥
  pub breaks-once : (F : File) (may : ℕ → Bool) (e : List ℕ) (i j : ℕ) → BreaksAt F may e i → BreaksAt F may e j → i ≡ j
  -- demand 1: what a refusal leaves
  pub run-rest : (h : Handed) (t : List ℕ) (K : ℕ) (v : List ℕ) → RunRest (ran_with h t K v)
  pub judge-rest : (h : Handed) (t v : List ℕ) → JudgeRest (judged_with h t v)
  pub trace_rest : (t : List ℕ) (K : ℕ) (out out' : List ℕ) (r : Written) → TraceWritten t K out out' r → TraceRest out out' r
  pub slice-rest : (t out out' : List ℕ) (r : Kept.Answer) → SliceWritten t out out' r → SliceRest out out' r
  pub script_rest : (t out out' : List ℕ) (r : Written) → ScriptWritten t out out' r → ScriptRest out out' r
  pub trace_gives_rest : (which : TraceNumber) (t : List ℕ) (K : ℕ) (out out' : List ℕ) (r : ℕ) → TraceGives which t K out out' r
      → TraceGivesRest (trace_answer t K (length out)) out out'
  pub slice_gives_rest : (which : SliceNumber) (t out out' : List ℕ) (r : ℕ) → SliceGives which t out out' r
      → SliceGivesRest (slice_answer t (length out)) out out'
  pub script_gives_rest : (which : ScriptNumber) (t out out' : List ℕ) (r : ℕ) → ScriptGives which t out out' r
      → ScriptGivesRest (script_answer t (length out)) out out'
  -- demand 3, for every table and bound for which the trace is written; demand 2 is the calls' contracts, `Determined` and `Marked`
  pub demand3 : (b : List ℕ) (K room : ℕ) → All Byte b → (trace_answer b K room).reply ≡ 0 → Demand3 b K (trace_answer b K room).bytes
  -- request 2026-02: a buffer of four million bytes, the header's KADVITUL_SCRIPT_ROOM, holds the script of every trace
  pub script_room : (t : List ℕ) (room : ℕ) → All Byte t → 4000000 ≤ room → (script_answer t room).reply ≡ 10 → ⊥
  -- what a solver answers to the script of a trace is whether some inputs make the trace unsafe
  pub posed : (t : List ℕ) (room : ℕ) → All Byte t → (script_answer t room).reply ≡ 0 → Posed t
  -- and what it answers to the script of a written trace, or of its slice, is whether the rule fails within the bound
  pub solver : (b : List ℕ) (K room : ℕ) → All Byte b → (trace_answer b K room).reply ≡ 0 → Solver b K (trace_answer b K room).bytes
  -- request 2026-13: a higher bound finds every violation that a lower one finds, and changes no run that the lower one does not cut
  pub runs-raised : (b : List ℕ) (K L : ℕ) → All Byte b → K ≤ L → L ≤ 255 → RunsRaised b K L
  pub traces_raised : (b : List ℕ) (K L room room' : ℕ) → All Byte b → K ≤ L → (trace_answer b K room).reply ≡ 0
      → (trace_answer b L room').reply ≡ 0 → TracesRaised (trace_answer b K room).bytes (trace_answer b L room').bytes
  -- and stamps with which a run neither fails nor is cut fail under no bound
  pub settled : (b : List ℕ) (K : ℕ) → All Byte b → K ≤ 255 → Settled b K
