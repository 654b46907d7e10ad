use Rattle.std.proofs.Common.{refl}
use Rattle.trace.specs.Shown.{symbol_room}
use Rattle.trace.proofs.read.Seen.at_first.Goals as goal

pub returns : goal.returns
unfolding symbol_room
returns c = refl
