use Rattle.write.specs.SpliceLaws.{◌then◌}
use Rattle.unwind.proofs.record.open_assign.Goals as goal

pub returns : goal.returns
returns c = c.put_byte-a.ensures then c.put_two-b.ensures then c.put_two.ensures
