use native.Mathlib.Omega.{arith}
use Rattle.file.specs.File.{head_size, header_count}
use Rattle.file.proofs.count_of.Goals as goal

pub two_at-requires : goal.two_at-requires
unfolding head_size
two_at-requires c = grind arith

pub returns : goal.returns
unfolding header_count
returns c = c.two_at.ensures.0
