-- Each arm gives its operator's name.
use Rattle.std.proofs.Common.{refl}
use Rattle.show.proofs.word.unary_name.Goals as goal

pub returns-in-Not : goal.returns-in-Not
returns-in-Not c = rw c.in-Not.is refl

pub returns-in-Neg : goal.returns-in-Neg
returns-in-Neg c = rw c.in-Neg.is refl

pub returns-in-Zero : goal.returns-in-Zero
returns-in-Zero c = rw c.in-Zero.is refl
