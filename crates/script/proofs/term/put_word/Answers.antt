-- A symbol that may be read has a number of two bytes.
use Rattle.std.proofs.Common.{◌≡◌, true, subst, arith, ltb-true}
use Rattle.expr.specs.Expr.{below, reads_only}
use Rattle.trace.specs.Shown.{symbol_room}
use Rattle.trace.specs.TraceLaws.{symbols-few}
use Rattle.script.proofs.term.put_word.Goals as goal

pub put_name-requires : goal.put_name-requires
put_name-requires c =
    let known = subst (λ t. reads_only (below symbol_room) t ≡ true) c.in-Symbol.is c.requires.0 in
    (omega (arith, ltb-true c.in-Symbol.s symbol_room known, symbols-few), grind arith)
