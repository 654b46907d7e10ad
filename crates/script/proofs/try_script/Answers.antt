-- Each `return` cites the law of the way to it (`proofs/Answers.antt`); the script is measured, and then written where it fits.
use Rattle.std.proofs.Common.{arith, ◌≡◌, refl, sym, ap, ◌∙◌, subst, List, ℕ, ◌<◌}
use Rattle.std.specs.Prelude.{◌^◌, Result, Err}
use Rattle.std.specs.Result.{IfErr}
use Rattle.std.proofs.lemmas.Result.{err_from_is_err_and}
use Rattle.expr.specs.Lists.{all-at}
use Rattle.expr.specs.Number.{Byte}
use Rattle.file.specs.File.{head_of, Accepted}
use Rattle.file.specs.Shown.{is_accepted, listed}
use Rattle.file.specs.declared.Refusal.{Refusal}
use Rattle.file.proofs.ReadingLaws.{refuses}
use Rattle.trace.specs.Trace.{read_trace}
use Rattle.trace.proofs.Answers.{offset-small, trace_accepted}
use Rattle.write.specs.Shown as Code
use Rattle.script.specs.Answer.{ScriptWritten}
use Rattle.script.proofs.Answers.{trace_refuses, no_room, written}
use Rattle.script.proofs.try_script.Goals as goal
use Rattle.script.proofs.try_script.Goals.{After-from_residual, In_ok-read_trace}

-- the trace is refused: the error that goes on is the reader's
handed : (c : After-from_residual) → c.from_residual.result ≡ Err c.in_err-read_trace.field-0.0.why
handed c =
    let p = err_from_is_err_and c.from_residual.result c.from_residual.ensures.1 in
    p.1 ∙ ap {B = Result ℕ Refusal} Err p.2

pub returns-in_err-read_trace-clause-answer : goal.returns-in_err-read_trace-clause-answer
returns-in_err-read_trace-clause-answer c =
    let s = c.args.trace.now in
    let out = c.args.out.now in
    subst (λ r. ScriptWritten s out out (Code.written r))
    (sym (handed (goal.at.returns-in_err-read_trace-clause-answer c).After-from_residual))
    (trace_refuses s out _ _ (refuses c.in_err-read_trace.ensures) _ refl)

pub returns-in_err-read_trace-clause-small : goal.returns-in_err-read_trace-clause-small
returns-in_err-read_trace-clause-small c =
    let small = offset-small c.in_err-read_trace.ensures (all-at Byte c.args.trace.now (λ i h. (c.type_inv.trace i).fits)) in
    subst (λ r. IfErr {T = ℕ} r (λ why. why.offset < 2 ^ 32))
    (sym (handed (goal.at.returns-in_err-read_trace-clause-small c).After-from_residual)) (omega arith)

-- the trace is accepted
module _ (c : In_ok-read_trace) where
  abbrev s : List ℕ
  s = c.args.trace.now

  accepted : read_trace s ≡ Accepted (head_of s) (listed (read_trace s))
  accepted = trace_accepted c.in_ok-read_trace.ensures

pub measure-requires : goal.measure-requires
measure-requires c = ap is_accepted (accepted (goal.at.measure-requires c).In_ok-read_trace)

pub returns-then-out-measure-clause-answer : goal.returns-then-out-measure-clause-answer
returns-then-out-measure-clause-answer c =
    no_room _ _ _ _ (accepted (goal.at.returns-then-out-measure-clause-answer c).In_ok-read_trace)
    (grind arith) _ (ap (λ f. Code.written (Err f)) c.into.ensures)

pub put_script-requires : goal.put_script-requires
put_script-requires c = ap is_accepted (accepted (goal.at.put_script-requires c).In_ok-read_trace)

pub returns-clause-answer : goal.returns-clause-answer
returns-clause-answer c =
    written _ _ _ _ (accepted (goal.at.returns-clause-answer c).In_ok-read_trace)
    (grind arith) c.put_script.ensures.0
