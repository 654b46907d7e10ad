use Prim.Native.Nat.{ℕ}
use mathlib.Core.Path.{ap}
use mathlib.Core.List.{List, [], ◌∷◌}
use Rattle.write.specs.SpliceLaws.{◌then◌, wrote_as}
use Rattle.unwind.proofs.record.open_test.Goals as goal

pub returns : goal.returns
returns c = wrote_as (ap {B = List ℕ} (λ b. b ∷ []) c.code_of.ensures) c.put_byte-a.ensures then c.put_two.ensures
