-- The invariant is `Evaluating`: the value of what is left, from the stack that is reached, is the value of the whole.
use Rattle.expr.specs.Shown.{tokens_left}
use Rattle.expr.proofs.Evals.{Evaluating}
use Rattle.expr.proofs.eval.eval_expr.Given as goal

abbrev pub invariant-loop-t : goal.invariant-loop-t
invariant-loop-t l = Evaluating l.fn.file l.vals l.fn.e l.s (tokens_left l.t-iterator)
