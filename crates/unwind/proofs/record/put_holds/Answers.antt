use Rattle.write.specs.SpliceLaws.{◌then◌}
use Rattle.unwind.proofs.record.put_holds.Goals as goal

pub returns : goal.returns
returns c = c.put_constant-a.ensures then c.put_byte.ensures
