use Rattle.std.proofs.Common.{List, ℕ, [], ◌∷◌, ap}
use Rattle.write.specs.SpliceLaws.{◌then◌, wrote_as}
use Rattle.unwind.proofs.record.put_guard.Goals as goal

pub returns : goal.returns
returns c =
    c.put_symbol-a.ensures then
    c.put_constant-b.ensures then wrote_as (ap {B = List ℕ} (λ b. b ∷ []) c.code.ensures) c.put_byte.ensures
