use Rattle.std.proofs.Common.{refl}
use Rattle.write.specs.Splice.{splice}
use Rattle.write.proofs.fit_byte.Goals as goal

pub returns : goal.returns
unfolding splice
returns c = record { buffer = c.store.ensures; next = refl }
