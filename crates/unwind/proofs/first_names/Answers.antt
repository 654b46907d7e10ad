-- Below the array's length the closure's own answer; past it, the symbol itself.
use Prim.Native.Nat.{ℕ, ◌<◌}
use native.Mathlib.Omega.{arith}
use native.Mathlib.Decide.{dec_lt}
use mathlib.Core.Path.{◌≡◌}
use lib.ListN.{get_or}
use Rattle.std.proofs.Common.{rules}
use Rattle.std.proofs.lemmas.List.{get_or_past}
use Rattle.file.specs.File.{input_room}
use Rattle.unwind.proofs.first_names.Goals as goal

pub returns : goal.returns
unfolding input_room
returns c =
    let all = c.from_fn.ensures.items in
    let named : (s : ℕ) → s < 64 → get_or c.from_fn.result s s ≡ s = λ s h. let made = all.at s s h in search rules in
    (all.long, λ s. elim (dec_lt s 64) [ yes h ↦ named s h | no h ↦ get_or_past _ s s (omega (arith, all.long)) ])
