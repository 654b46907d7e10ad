-- What is written and what is left make the whole (`Putting`).
use Rattle.expr.specs.declared.File.TheVariants.{Table}
use Rattle.std.proofs.Common.{length}
use Rattle.expr.specs.Expr.{below, parse}
use Rattle.expr.specs.Shown.{tokens_left, tokens_of}
use Rattle.unwind.proofs.Exprs.{Putting}
use Rattle.unwind.proofs.tokens.put_tokens.Given as goal

abbrev pub invariant-loop-t : goal.invariant-loop-t
invariant-loop-t l =
    Putting l.names l.initial.out l.at (tokens_of (parse Table (below (length l.names)) l.fn.e)) (tokens_left l.t-iterator) l.out l.to
