-- Each arm gives what stands behind its operators.
use Rattle.std.proofs.Common.{◌≡◌, ◌⊎◌, refl, inl, inr}
use Rattle.expr.specs.declared.word.Binary.{Binary}
use Rattle.expr.specs.declared.word.Binary.TheVariants.{Add, Sub, Mul, Udiv, Urem, And, Or, Xor, Shl, Lshr, Equal, Ult, Ule, Slt}
use Rattle.write.specs.Ascii.{ascii}
use Rattle.script.specs.Shown.{binary_back}
use Rattle.script.proofs.operator.binary_back.Goals as goal

test : (o : Binary) → (o ≡ Equal) ⊎ (o ≡ Ult) ⊎ (o ≡ Slt) ⊎ (o ≡ Ule) → ascii ") #x00000001 #x00000000)" ≡ ascii (binary_back o)
test o (inl e) = rw e refl
test o (inr (inl e)) = rw e refl
test o (inr (inr (inl e))) = rw e refl
test o (inr (inr (inr e))) = rw e refl

plain : (o : Binary) → (o ≡ Equal → ⊥) → (o ≡ Ult → ⊥) → (o ≡ Slt → ⊥) → (o ≡ Ule → ⊥) → ascii ")" ≡ ascii (binary_back o)
plain Add a b c d = refl
plain Sub a b c d = refl
plain Mul a b c d = refl
plain Udiv a b c d = refl
plain Urem a b c d = refl
plain And a b c d = refl
plain Or a b c d = refl
plain Xor a b c d = refl
plain Shl a b c d = refl
plain Lshr a b c d = refl
plain Equal a b c d = absurd (a refl)
plain Ult a b c d = absurd (b refl)
plain Ule a b c d = absurd (d refl)
plain Slt a b c d = absurd (c refl)

pub returns-in-Equal : goal.returns-in-Equal
returns-in-Equal c = test _ c.in-Equal.is

pub returns-in_default : goal.returns-in_default
returns-in_default c = let n = c.in_default in plain _ n.not-Equal n.not-Ult n.not-Slt n.not-Ule
