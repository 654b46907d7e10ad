-- Each arm gives what stands in front of its operator.
use Rattle.std.proofs.Common.{refl}
use Rattle.script.proofs.operator.binary_front.Goals as goal

pub returns-in-Add : goal.returns-in-Add
returns-in-Add c = rw c.in-Add.is refl

pub returns-in-Sub : goal.returns-in-Sub
returns-in-Sub c = rw c.in-Sub.is refl

pub returns-in-Mul : goal.returns-in-Mul
returns-in-Mul c = rw c.in-Mul.is refl

pub returns-in-Udiv : goal.returns-in-Udiv
returns-in-Udiv c = rw c.in-Udiv.is refl

pub returns-in-Urem : goal.returns-in-Urem
returns-in-Urem c = rw c.in-Urem.is refl

pub returns-in-And : goal.returns-in-And
returns-in-And c = rw c.in-And.is refl

pub returns-in-Or : goal.returns-in-Or
returns-in-Or c = rw c.in-Or.is refl

pub returns-in-Xor : goal.returns-in-Xor
returns-in-Xor c = rw c.in-Xor.is refl

pub returns-in-Shl : goal.returns-in-Shl
returns-in-Shl c = rw c.in-Shl.is refl

pub returns-in-Lshr : goal.returns-in-Lshr
returns-in-Lshr c = rw c.in-Lshr.is refl

pub returns-in-Equal : goal.returns-in-Equal
returns-in-Equal c = rw c.in-Equal.is refl

pub returns-in-Ult : goal.returns-in-Ult
returns-in-Ult c = rw c.in-Ult.is refl

pub returns-in-Slt : goal.returns-in-Slt
returns-in-Slt c = rw c.in-Slt.is refl

pub returns-in-Ule : goal.returns-in-Ule
returns-in-Ule c = rw c.in-Ule.is refl
