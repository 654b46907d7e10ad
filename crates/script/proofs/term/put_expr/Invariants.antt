-- What is written and what is left make all bindings (`Putting`).
use Rattle.expr.specs.declared.File.TheVariants.{Trace}
use Rattle.expr.specs.Expr.{below, parse}
use Rattle.expr.specs.Shown.{tokens_left, tokens_of}
use Rattle.trace.specs.Shown.{symbol_room}
use Rattle.script.proofs.Terms.{Putting}
use Rattle.script.proofs.term.put_expr.Given as goal

abbrev pub invariant-loop-t : goal.invariant-loop-t
invariant-loop-t l =
    Putting l.initial.out l.at (tokens_of (parse Trace (below symbol_room) l.fn.e)) (tokens_left l.t-iterator) l.out l.depth l.count l.to
