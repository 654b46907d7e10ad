-- K and 65,536 bytes decide what is printed, and 393,210 bytes hold every text.
use Rattle.std.specs.Prelude.{ℕ, suc, ◌-◌, ◌≤◌, ◌≡◌}
use Rattle.std.proofs.Common.{arith, subst}
use Rattle.show.specs.TextLaws.{printed-cut}
use Rattle.show.specs.SizeLaws.{printed-small}
use Rattle.print_slice.specs.Buffers.{Decides, HoldsEvery}

pub enough-read : (n : ℕ) → 65537 ≤ n → Decides n
enough-read n h =
    subst Decides (let e : suc (n - 1) ≡ n = omega arith in e) (record { decides = λ input o. printed-cut (n - 1) input (omega arith) o })

pub room_for_all : (m : ℕ) → 393210 ≤ m → HoldsEvery m
room_for_all m h = record { holds = λ input o. omega (arith, printed-small input o) }
