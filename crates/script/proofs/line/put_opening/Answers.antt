use Rattle.std.proofs.Common.{arith}
use Rattle.write.specs.SpliceLaws.{wrote_as}
use Rattle.script.proofs.Pieces.{opening-assert, opening-assume}
use Rattle.script.proofs.line.put_opening.Goals as goal

pub returns-in-Assert : goal.returns-in-Assert
returns-in-Assert c =
    (wrote_as (opening-assert _ c.in-Assert.is) c.fit_part.ensures, grind arith)

pub returns-in_default : goal.returns-in_default
returns-in_default c =
    let w = c.fit_part-in_default.ensures in
    (wrote_as (opening-assume c.args.kind c.in_default.not-Assert) w, omega (arith, w.next))
