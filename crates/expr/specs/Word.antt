-- Document 01, "Arithmetic": the operators on words of w bits. A word is a number below 2 ^ w; the code's words have 32 bits.
-- They are those of SMT-LIB's FixedSizeBitVectors. `src/word.rt` declares them.
use Rattle.std.specs.Prelude.{ℕ, ◌+◌, ◌-◌, ◌*◌, ◌/◌, ◌%◌, ◌^◌, ◌<◌, Bool, true, false, cond, not, ℤ, pos, ◌==◌, bit_and, bit_or, bit_xor}
use Rattle.std.specs.Prelude.{int_lt, nat_le, nat_lt}
use Rattle.std.proofs.Math.IntN.{sub_ℕ}
use Rattle.expr.specs.declared.word.Unary.{Unary}
use Rattle.expr.specs.declared.word.Unary.TheVariants.{Not, Neg, Zero}
use Rattle.expr.specs.declared.word.Binary.{Binary}
use Rattle.expr.specs.declared.word.Binary.TheVariants.{Add, Sub, Mul, Udiv, Urem, And, Or, Xor, Shl, Lshr, Equal, Ult, Ule, Slt}

-- a word of 32 bits
abbrev pub Word : ℕ → Type 0
Word a = a < 2 ^ 32

-- zero means false, any other word true
abbrev pub truthy : ℕ → Bool
truthy a = not (a == 0)

-- tests give 0 or 1
abbrev pub test : Bool → ℕ
test true = 1
test false = 0

-- a word read as -2 ^ (w - 1) to 2 ^ (w - 1) - 1: from 2 ^ (w - 1) on it stands for a - 2 ^ w
unfoldable pub signed : (w a : ℕ) → ℤ
signed w a = cond (nat_lt a (2 ^ (w - 1))) (pos a) (sub_ℕ a (2 ^ w))

unfoldable pub unary : (w : ℕ) → Unary → ℕ → ℕ
unary w Not a = 2 ^ w - 1 - a
unary w Neg a = (2 ^ w - a) % 2 ^ w
unary w Zero a = test (a == 0)

-- a is the left operand
unfoldable pub binary : (w : ℕ) → Binary → (a b : ℕ) → ℕ
binary w Add a b = (a + b) % 2 ^ w
binary w Sub a b = (a + (2 ^ w - b)) % 2 ^ w
binary w Mul a b = a * b % 2 ^ w
binary w Udiv a b = cond (b == 0) (2 ^ w - 1) (a / b)
binary w Urem a b = cond (b == 0) a (a % b)
binary w And a b = bit_and a b
binary w Or a b = bit_or a b
binary w Xor a b = bit_xor a b
binary w Shl a b = cond (nat_lt b w) (a * 2 ^ b % 2 ^ w) 0
binary w Lshr a b = cond (nat_lt b w) (a / 2 ^ b) 0
binary w Equal a b = test (a == b)
binary w Ult a b = test (nat_lt a b)
binary w Ule a b = test (nat_le a b)
binary w Slt a b = test (int_lt (signed w a) (signed w b))

-- a if c is not 0, else b
abbrev pub choice : (c a b : ℕ) → ℕ
choice c a b = cond (truthy c) a b

-- bit i of a word, the lowest first
abbrev pub bit : (i a : ℕ) → ℕ
bit i a = a / 2 ^ i % 2
