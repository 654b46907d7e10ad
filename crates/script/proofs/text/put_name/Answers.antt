use Rattle.std.proofs.Common.{arith}
use Rattle.write.specs.SpliceLaws.{◌then◌}
use Rattle.script.proofs.text.put_name.Goals as goal

pub returns : goal.returns
returns c =
    (c.fit_byte-a.ensures then c.fit_decimal.ensures.0, grind arith)
