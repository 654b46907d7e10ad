-- S has at most two digits, so the line fits.
use Rattle.std.proofs.Common.{rules, arith}
use Rattle.file.specs.File.{input_room}
use Rattle.write.specs.SpliceLaws.{◌then◌}
use Rattle.write.specs.DecimalLaws.{two_digits}
use Rattle.show.proofs.line.put_first.Goals as goal

pub overflow_cast-inputs : goal.overflow_cast-inputs
unfolding input_room
overflow_cast-inputs c = search rules

pub returns : goal.returns
unfolding input_room
returns c = (
  (((c.fit_part-a.ensures then c.fit_decimal-b.ensures.0) then c.fit_part-c.ensures) then c.fit_decimal-d.ensures.0)
      then c.fit_part.ensures,
  grind (arith, two_digits c.args.inputs (grind arith)),
)
