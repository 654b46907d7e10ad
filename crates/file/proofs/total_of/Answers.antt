use native.Mathlib.Omega.{arith}
use Rattle.file.specs.File.{head_size}
use Rattle.file.proofs.total_of.Goals as goal

pub two_at-requires : goal.two_at-requires
unfolding head_size
two_at-requires c = grind arith
