use Rattle.std.proofs.Common.{ℕ, arith, sym, subst}
use lib.ListN.{length-replicate}
use Rattle.print_slice.specs.Buffers.{HoldsEvery}
use Rattle.print_slice.specs.BuffersLaws.{room_for_all}
use Rattle.print_slice.proofs.text_room.Goals as goal

pub returns : goal.returns
returns c = subst HoldsEvery (sym (length-replicate {A = ℕ} 393210 0)) (room_for_all 393210 (omega arith))
