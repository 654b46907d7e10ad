-- Document 01, "The trace under bound K": judging is EvalTrace of source document 000.
use Rattle.std.specs.Prelude.{cond, List, [], ◌∷◌}
use Rattle.expr.specs.Word.{truthy}
use Rattle.expr.specs.Eval.{Env, update, value}
use Rattle.file.specs.Outcome.{Outcome, Ended, Failed}
use Rattle.trace.specs.Trace.{Stmt, Assign, Test}

-- statement after statement; the first false test ends it
unfoldable pub judge : List Stmt → Env → Outcome
judge [] σ = Ended
judge (Assign p x e ∷ ts) σ = judge ts (update σ x (value σ e))
judge (Test k p e ∷ ts) σ = cond (truthy (value σ e)) (judge ts σ) (Failed k p)
