-- Each arm gives what stands behind its operators.
use Rattle.std.proofs.Common.{◌≡◌, ◌⊎◌, refl, inl, inr}
use Rattle.expr.specs.declared.word.Unary.{Unary}
use Rattle.expr.specs.declared.word.Unary.TheVariants.{Not, Neg}
use Rattle.write.specs.Ascii.{ascii}
use Rattle.script.specs.Shown.{unary_back}
use Rattle.script.proofs.operator.unary_back.Goals as goal

plain : (o : Unary) → (o ≡ Not) ⊎ (o ≡ Neg) → ascii ")" ≡ ascii (unary_back o)
plain o (inl e) = rw e refl
plain o (inr e) = rw e refl

pub returns-in-Not : goal.returns-in-Not
returns-in-Not c = plain _ c.in-Not.is

pub returns-in-Zero : goal.returns-in-Zero
returns-in-Zero c = rw c.in-Zero.is refl
