-- What is marked and what is left make the whole (`Marking`).
use Rattle.expr.specs.declared.File.TheVariants.{Trace}
use Rattle.expr.specs.Expr.{below, parse}
use Rattle.expr.specs.Shown.{tokens_left, tokens_of}
use Rattle.trace.specs.Shown.{symbol_room}
use Rattle.slice.specs.Shown.{in_set}
use Rattle.slice.proofs.Reading.{Marking}
use Rattle.slice.proofs.reads.mark_reads.Given as goal

abbrev pub invariant-loop-t : goal.invariant-loop-t
invariant-loop-t l =
    Marking (in_set l.initial.needed) (tokens_of (parse Trace (below symbol_room) l.fn.e)) (in_set l.needed) (tokens_left l.t-iterator)
