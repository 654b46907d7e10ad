use mathlib.Core.Path.{refl}
use Rattle.file.specs.File.{input_room, inputs_limit}
use Rattle.file.proofs.inputs_limit.Goals as goal

pub returns : goal.returns
unfolding input_room inputs_limit
returns c = refl
