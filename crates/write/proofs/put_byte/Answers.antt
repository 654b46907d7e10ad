use Rattle.write.specs.Splice.{splice}
use Rattle.std.proofs.Common.{refl}
use Rattle.write.proofs.put_byte.Goals as goal

pub returns : goal.returns
unfolding splice
returns c = record { buffer = refl; next = refl }
