-- A space, and then the token's text.
use Rattle.std.proofs.Common.{◌≡◌, ◌≤◌, length, subst, arith, ltb-true, true}
use Rattle.expr.specs.declared.word.Unary.{Unary}
use Rattle.expr.specs.declared.word.Unary.TheVariants.{Not, Neg, Zero}
use Rattle.expr.specs.declared.word.Binary.{Binary}
use Rattle.expr.specs.declared.word.Binary.TheVariants.{Add, Sub, Mul, Udiv, Urem, And, Or, Xor, Shl, Lshr, Equal, Ult, Ule, Slt}
use Rattle.expr.specs.Expr.{below, reads_only}
use Rattle.trace.specs.Shown.{symbol_room}
use Rattle.trace.specs.TraceLaws.{symbols-few}
use Rattle.write.specs.SpliceLaws.{◌then◌}
use Rattle.write.specs.Ascii.{ascii}
use Rattle.show.specs.Text.{unary_name, binary_name}
use Rattle.show.proofs.word.put_token.Goals as goal

-- an operator's name has at most five letters
unary_few : (o : Unary) → length (ascii (unary_name o)) ≤ 5
unary_few Not = omega arith
unary_few Neg = omega arith
unary_few Zero = omega arith

binary_few : (o : Binary) → length (ascii (binary_name o)) ≤ 5
binary_few Add = omega arith
binary_few Sub = omega arith
binary_few Mul = omega arith
binary_few Udiv = omega arith
binary_few Urem = omega arith
binary_few And = omega arith
binary_few Or = omega arith
binary_few Xor = omega arith
binary_few Shl = omega arith
binary_few Lshr = omega arith
binary_few Equal = omega arith
binary_few Ult = omega arith
binary_few Ule = omega arith
binary_few Slt = omega arith

pub overflow_cast-s : goal.overflow_cast-s
overflow_cast-s c = record {
  fits =
      let known = subst (λ t. reads_only (below symbol_room) t ≡ true) c.in-Symbol.is c.requires.0 in
      omega (arith, ltb-true c.in-Symbol.s symbol_room known, symbols-few);
}

pub fit_part-requires : goal.fit_part-requires
fit_part-requires c = grind (arith, unary_few)

pub fit_part-requires-in-Bin : goal.fit_part-requires-in-Bin
fit_part-requires-in-Bin c = grind (arith, binary_few)

pub returns-in-Const : goal.returns-in-Const
returns-in-Const c = rw c.in-Const.is (c.fit_byte-a.ensures then c.fit_decimal.ensures.0, grind arith)

pub returns-in-Symbol : goal.returns-in-Symbol
returns-in-Symbol c =
    rw c.in-Symbol.is (c.fit_byte-a.ensures then c.fit_byte-b.ensures then c.fit_decimal-in-Symbol.ensures.0, grind arith)

pub returns-in-Un : goal.returns-in-Un
returns-in-Un c =
    rw (c.in-Un.is, ← c.unary_name.ensures) (c.fit_byte-a.ensures then c.fit_part.ensures, grind (arith, unary_few))

pub returns-in-Bin : goal.returns-in-Bin
returns-in-Bin c =
    rw (c.in-Bin.is, ← c.binary_name.ensures) (c.fit_byte-a.ensures then c.fit_part-in-Bin.ensures, grind (arith, binary_few))

pub returns-in-Ite : goal.returns-in-Ite
returns-in-Ite c = rw c.in-Ite.is (c.fit_byte-a.ensures then c.fit_part-in-Ite.ensures, grind arith)
