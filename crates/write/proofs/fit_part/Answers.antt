-- Where the whole part fits it is copied, and behind the end nothing is stored.
use Rattle.std.proofs.Common.{refl, sym}
use Rattle.write.specs.SpliceLaws.{splice-past}
use Rattle.write.proofs.fit_part.Goals as goal

pub returns-then-out-at : goal.returns-then-out-at
returns-then-out-at c = record { buffer = sym (splice-past _ _ _ c.if-out-at.true); next = refl }
