use Rattle.write.specs.SpliceLaws.{◌then◌}
use Rattle.unwind.proofs.record.put_old.Goals as goal

pub returns : goal.returns
returns c = c.put_symbol-a.ensures then c.put_byte.ensures
