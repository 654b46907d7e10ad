use Rattle.std.proofs.Common.{ℕ, ap₂, List, [], ◌∷◌}
use Rattle.write.specs.SpliceLaws.{◌then◌, wrote_as}
use Rattle.script.proofs.text.put_pair.Goals as goal

pub returns : goal.returns
returns c =
    wrote_as (ap₂ {C = List ℕ} (λ x y. x ∷ y ∷ []) c.digit.ensures c.digit-2.ensures) (c.fit_byte-a.ensures then c.fit_byte.ensures)
