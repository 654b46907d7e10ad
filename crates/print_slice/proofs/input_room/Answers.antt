use Rattle.std.proofs.Common.{ℕ, arith, sym, subst}
use lib.ListN.{length-replicate}
use Rattle.print_slice.specs.Buffers.{Decides}
use Rattle.print_slice.specs.BuffersLaws.{enough-read}
use Rattle.print_slice.proofs.input_room.Goals as goal

pub returns : goal.returns
returns c = subst Decides (sym (length-replicate {A = ℕ} 65537 0)) (enough-read 65537 (omega arith))
