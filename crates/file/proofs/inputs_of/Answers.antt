use native.Mathlib.Omega.{arith}
use Rattle.file.specs.File.{head_size, header_inputs}
use Rattle.file.proofs.inputs_of.Goals as goal

pub bounds-s-3 : goal.bounds-s-3
unfolding head_size
bounds-s-3 c = grind arith

pub returns : goal.returns
unfolding header_inputs
returns c = c.from.ensures
