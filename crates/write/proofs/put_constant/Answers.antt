use Rattle.write.specs.SpliceLaws.{◌then◌}
use Rattle.write.proofs.put_constant.Goals as goal

pub returns : goal.returns
returns c = c.put_byte-to.ensures then c.put_word.ensures
