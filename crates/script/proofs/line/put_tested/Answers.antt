use Rattle.std.proofs.Common.{arith}
use Rattle.write.specs.SpliceLaws.{◌then◌}
use Rattle.script.proofs.line.put_tested.Goals as goal

pub returns : goal.returns
returns c = (
  (c.put_opening-a.ensures.0 then c.put_expr-b.ensures.0) then c.fit_part.ensures,
  grind arith,
)
