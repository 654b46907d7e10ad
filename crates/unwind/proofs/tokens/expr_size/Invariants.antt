-- What is measured and what is left make the whole.
use Rattle.std.proofs.Common.{◌≡◌, ◌+◌}
use Rattle.expr.specs.declared.File.TheVariants.{Table}
use Rattle.expr.specs.Expr.{parse}
use Rattle.expr.specs.Shown.{tokens_left, tokens_of}
use Rattle.unwind.specs.Size.{expr_size}
use Rattle.unwind.specs.Shown.{known}
use Rattle.unwind.proofs.tokens.expr_size.Given as goal

abbrev pub invariant-loop-t : goal.invariant-loop-t
invariant-loop-t l = l.size + expr_size (tokens_left l.t-iterator) ≡ expr_size (tokens_of (parse Table known l.fn.e))
