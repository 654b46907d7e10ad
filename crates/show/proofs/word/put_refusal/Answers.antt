use Rattle.std.proofs.Common.{arith}
use Rattle.write.specs.SpliceLaws.{◌then◌}
use Rattle.show.proofs.word.put_refusal.Goals as goal

pub returns : goal.returns
returns c = (
  (((c.fit_part-a.ensures then c.fit_decimal-b.ensures.0) then c.fit_part-c.ensures) then c.fit_decimal-d.ensures.0)
      then c.fit_part.ensures,
  grind arith,
)
