use Rattle.std.proofs.Common.{arith}
use Rattle.file.specs.File.{head_size, header}
use Rattle.write.specs.SpliceLaws.{◌then◌}
use Rattle.write.proofs.put_header.Goals as goal

pub returns : goal.returns
unfolding header head_size
returns c = (c.put_byte-a.ensures then c.put_two-b.ensures then c.put_byte-c.ensures then c.put_two.ensures, grind arith)
