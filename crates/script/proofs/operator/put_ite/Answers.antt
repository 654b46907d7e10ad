use Rattle.std.proofs.Common.{arith}
use Rattle.write.specs.SpliceLaws.{◌then◌, wrote_as}
use Rattle.script.proofs.Operators.{ite-text}
use Rattle.script.proofs.operator.put_ite.Goals as goal

pub returns : goal.returns
returns c = (
  wrote_as (ite-text _)
      ((((((c.fit_part-a.ensures then c.put_name-b.ensures.0) then c.fit_part-c.ensures) then c.put_name-d.ensures.0) then
      c.fit_byte-e.ensures) then c.put_name-f.ensures.0) then c.fit_byte.ensures),
  grind arith,
)
