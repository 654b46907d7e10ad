-- The mask grows by its highest bit.
use Prim.Native.Nat.{ℕ, ◌+◌, ◌*◌, ◌%◌, ◌^◌, ◌<◌}
use native.Mathlib.Omega.{arith}
use mathlib.Core.Path.{◌≡◌, ap, ◌∙◌}
use mathlib.Core.Bool.{Bool, true, false}
use lib.Dec.{lit<}
use lib.Bits.{bit_or, or_shifted_r}
use lib.Pow.{shl_exact}
use mir.Val.{bool_byte}
use Rattle.expr.specs.Word.{test}

pub bit-set : (mask s : ℕ) (b : Bool) → s < 64 → mask < 2 ^ s → bit_or mask (bool_byte b * 2 ^ s % 2 ^ 64) ≡ test b * 2 ^ s + mask
bit-set mask s true h k = ap (bit_or mask) (shl_exact 1 s 64 (lit< tt) (omega arith)) ∙ or_shifted_r 1 s mask k
bit-set mask s false h k = ap (bit_or mask) (shl_exact 1 s 64 (lit< tt) (omega arith)) ∙ or_shifted_r 0 s mask k
