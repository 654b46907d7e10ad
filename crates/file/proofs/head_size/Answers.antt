use native.Mathlib.Omega.{arith}
use mathlib.Core.Path.{refl}
use Rattle.file.specs.File.{head_size}
use Rattle.file.proofs.head_size.Goals as goal

pub returns : goal.returns
unfolding head_size
returns c = (refl, omega arith)
