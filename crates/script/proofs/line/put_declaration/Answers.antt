use Rattle.std.proofs.Common.{arith}
use Rattle.write.specs.SpliceLaws.{◌then◌}
use Rattle.script.proofs.line.put_declaration.Goals as goal

pub returns : goal.returns
returns c = (
  (c.fit_part-a.ensures then c.put_name-b.ensures.0) then c.fit_part.ensures,
  grind arith,
)
