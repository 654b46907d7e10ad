-- Each arm gives what stands in front of its operator.
use Rattle.std.proofs.Common.{refl}
use Rattle.script.proofs.operator.unary_front.Goals as goal

pub returns-in-Not : goal.returns-in-Not
returns-in-Not c = rw c.in-Not.is refl

pub returns-in-Neg : goal.returns-in-Neg
returns-in-Neg c = rw c.in-Neg.is refl

pub returns-in-Zero : goal.returns-in-Zero
returns-in-Zero c = rw c.in-Zero.is refl
