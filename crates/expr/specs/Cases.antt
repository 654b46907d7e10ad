-- Document 01's marked cases of the operators, and the check on small expressions: computed.
use Rattle.std.specs.Prelude.{◌≡◌, ℕ, zero, suc, List, [], ◌∷◌, map, length, replicate, refl}
use Rattle.std.specs.Prelude.{None, Some}
use Rattle.expr.specs.declared.File.TheVariants.{Table, Trace}
use Rattle.expr.specs.declared.word.Unary.TheVariants.{Not, Neg, Zero}
use Rattle.expr.specs.declared.word.Binary.TheVariants.{Add, Sub, Mul, Udiv, Urem, And, Or, Xor, Shl, Lshr, Equal, Ult, Ule, Slt}
use Rattle.expr.specs.Word.{signed, unary, binary, choice}
use Rattle.expr.specs.declared.token.Token.TheVariants.{Const, Symbol, Un, Bin, Ite}
use Rattle.expr.specs.Token.{operator, read_token}
use Rattle.expr.specs.Expr.{below, fits, Parsed, Whole, Breaks, parse_from, parse}
use Rattle.expr.specs.Eval.{env_of, value}

pub m6 : binary 32 Sub 0 1 ≡ 4294967295
unfolding binary
m6 = refl

pub m7 : binary 32 Mul 65536 65536 ≡ 0
unfolding binary
m7 = refl

pub m8 : (binary 32 Udiv 7 0 ≡ 4294967295) × (binary 32 Urem 7 0 ≡ 7)
unfolding binary
m8 = (refl, refl)

pub m9 : (binary 32 Shl 1 31 ≡ 2147483648) × (binary 32 Shl 1 32 ≡ 0)
unfolding binary
m9 = (refl, refl)

pub m10 : (binary 32 Slt 2147483648 0 ≡ 1) × (binary 32 Ult 2147483648 0 ≡ 0)
unfolding binary signed
m10 = (refl, refl)

-- the operators that no marked case has, on words that tell each from its like; an amount of 32 and more shifts everything out
unaries : (unary 32 Not 1 ≡ 4294967294) × (unary 32 Neg 1 ≡ 4294967295) × (unary 32 Neg 0 ≡ 0) × (unary 32 Zero 0 ≡ 1)
    × (unary 32 Zero 2 ≡ 0)
unfolding unary
unaries = (refl, refl, refl, refl, refl)

sums : (binary 32 Add 4294967295 2 ≡ 1) × (binary 32 Udiv 7 2 ≡ 3) × (binary 32 Urem 7 4 ≡ 3)
unfolding binary
sums = (refl, refl, refl)

bits : (binary 32 And 12 10 ≡ 8) × (binary 32 Or 12 10 ≡ 14) × (binary 32 Xor 12 10 ≡ 6)
unfolding binary
bits = (refl, refl, refl)

shifts : (binary 32 Shl 1 4294967295 ≡ 0) × (binary 32 Lshr 2147483648 31 ≡ 1) × (binary 32 Lshr 4294967295 32 ≡ 0)
    × (binary 32 Lshr 6 1 ≡ 3)
unfolding binary
shifts = (refl, refl, refl, refl)

tests : (binary 32 Equal 7 7 ≡ 1) × (binary 32 Equal 7 8 ≡ 0) × (binary 32 Ult 7 8 ≡ 1) × (binary 32 Ult 7 7 ≡ 0) × (binary 32 Ule 7 7 ≡ 1)
    × (binary 32 Ule 8 7 ≡ 0)
    × (binary 32 Slt 0 2147483648 ≡ 0) × (binary 32 Slt 7 7 ≡ 0) × (binary 32 Slt 4294967295 0 ≡ 1)
unfolding binary signed
tests = (refl, refl, refl, refl, refl, refl, refl, refl, refl)

-- any word but zero is true
choices : (choice 0 5 6 ≡ 6) × (choice 1 5 6 ≡ 5) × (choice 2 5 6 ≡ 5) × (choice 2147483648 5 6 ≡ 5)
choices = (refl, refl, refl, refl)

-- each operator on wide words, whose bytes all differ: a byte or a half that is lost or moved shows. The tests also have pairs that agree
-- in one half and differ in the other. The results were worked out apart from the definitions
wide_not : (unary 32 Not 0x12345678 ≡ 0xEDCBA987) × (unary 32 Not 0x9ABCDEF0 ≡ 0x6543210F)
unfolding unary
wide_not = (refl, refl)

wide_neg : (unary 32 Neg 0x12345678 ≡ 0xEDCBA988) × (unary 32 Neg 0x9ABCDEF0 ≡ 0x65432110)
unfolding unary
wide_neg = (refl, refl)

wide_zero : (unary 32 Zero 0x12345678 ≡ 0) × (unary 32 Zero 0x12340000 ≡ 0) × (unary 32 Zero 0x00005678 ≡ 0)
    × (unary 32 Zero 0x80000000 ≡ 0)
unfolding unary
wide_zero = (refl, refl, refl, refl)

wide_add : (binary 32 Add 0x12345678 0x9ABCDEF0 ≡ 0xACF13568) × (binary 32 Add 0xC3A5F617 0x9ABCDEF0 ≡ 0x5E62D507)
unfolding binary
wide_add = (refl, refl)

wide_sub : (binary 32 Sub 0x9ABCDEF0 0x1357F246 ≡ 0x8764ECAA) × (binary 32 Sub 0x12345678 0xC3A5F617 ≡ 0x4E8E6061)
unfolding binary
wide_sub = (refl, refl)

wide_mul : (binary 32 Mul 0x12345678 0x9ABCDEF0 ≡ 0x242D2080) × (binary 32 Mul 0x00012345 0x00006789 ≡ 0x75CCA2ED)
    × (binary 32 Mul 0xC3A5F617 0x9ABCDEF1 ≡ 0xA9889DA7)
unfolding binary
wide_mul = (refl, refl, refl)

wide_udiv : (binary 32 Udiv 0xFEDCBA98 7 ≡ 0x2468ACF1) × (binary 32 Udiv 0x9ABCDEF0 0x00001234 ≡ 0x00088028)
    × (binary 32 Udiv 0x9ABCDEF0 0x12345678 ≡ 8)
unfolding binary
wide_udiv = (refl, refl, refl)

wide_urem : (binary 32 Urem 0x9ABCDEF0 0x12345678 ≡ 0x091A2B30) × (binary 32 Urem 0xFEDCBA98 0x13579BDF ≡ 0x0369D045)
    × (binary 32 Urem 0x12345678 0x9ABCDEF0 ≡ 0x12345678)
unfolding binary
wide_urem = (refl, refl, refl)

wide_and : binary 32 And 0x73C5A69E 0x9ABCDEF0 ≡ 0x12848690
unfolding binary
wide_and = refl

wide_or : binary 32 Or 0x12345678 0x81C4A23E ≡ 0x93F4F67E
unfolding binary
wide_or = refl

wide_xor : binary 32 Xor 0x12345678 0xC3A5F617 ≡ 0xD191A06F
unfolding binary
wide_xor = refl

wide_shl : (binary 32 Shl 0x12345678 4 ≡ 0x23456780) × (binary 32 Shl 0x12345678 12 ≡ 0x45678000)
    × (binary 32 Shl 0x12345678 20 ≡ 0x67800000) × (binary 32 Shl 0x9ABCDEF1 1 ≡ 0x3579BDE2)
unfolding binary
wide_shl = (refl, refl, refl, refl)

wide_lshr : (binary 32 Lshr 0x9ABCDEF0 4 ≡ 0x09ABCDEF) × (binary 32 Lshr 0x9ABCDEF0 12 ≡ 0x0009ABCD)
    × (binary 32 Lshr 0x9ABCDEF0 20 ≡ 0x000009AB) × (binary 32 Lshr 0x9ABCDEF1 1 ≡ 0x4D5E6F78)
unfolding binary
wide_lshr = (refl, refl, refl, refl)

wide_equal : (binary 32 Equal 0x12345678 0x12345678 ≡ 1) × (binary 32 Equal 0x12345678 0x92345678 ≡ 0)
    × (binary 32 Equal 0x12345678 0x12345679 ≡ 0)
unfolding binary
wide_equal = (refl, refl, refl)

wide_ult : (binary 32 Ult 0x12345678 0x9ABC5678 ≡ 1) × (binary 32 Ult 0x9ABC5678 0x12345678 ≡ 0)
    × (binary 32 Ult 0x12345678 0x1234DEF0 ≡ 1) × (binary 32 Ult 0x1234DEF0 0x12345678 ≡ 0) × (binary 32 Ult 0x1234DEF0 0x9ABC5678 ≡ 1)
unfolding binary
wide_ult = (refl, refl, refl, refl, refl)

wide_ule : (binary 32 Ule 0x12345678 0x9ABC5678 ≡ 1) × (binary 32 Ule 0x9ABC5678 0x12345678 ≡ 0)
    × (binary 32 Ule 0x12345678 0x1234DEF0 ≡ 1) × (binary 32 Ule 0x1234DEF0 0x12345678 ≡ 0) × (binary 32 Ule 0x1234DEF0 0x9ABC5678 ≡ 1)
unfolding binary
wide_ule = (refl, refl, refl, refl, refl)

wide_slt : (binary 32 Slt 0x9ABCDEF0 0x12345678 ≡ 1) × (binary 32 Slt 0x12345678 0x9ABCDEF0 ≡ 0)
    × (binary 32 Slt 0x9ABC5678 0xFEDC5678 ≡ 1) × (binary 32 Slt 0xFEDC5678 0x9ABC5678 ≡ 0) × (binary 32 Slt 0x12345678 0x1234DEF0 ≡ 1)
    × (binary 32 Slt 0x9ABCDEF0 0x9ABC5678 ≡ 0)
unfolding binary signed
wide_slt = (refl, refl, refl, refl, refl, refl)

wide-ite : (choice 0x00010000 0x12345678 0x9ABCDEF0 ≡ 0x12345678) × (choice 0x00000100 0x12345678 0x9ABCDEF0 ≡ 0x12345678)
    × (choice 0 0x12345678 0x9ABCDEF0 ≡ 0x9ABCDEF0)
wide-ite = (refl, refl, refl)

-- document 01's list of tokens, code after code, and the codes beside them
codes : map operator (0x10 ∷ 0x11 ∷ 0x12 ∷ 0x20 ∷ 0x21 ∷ 0x22 ∷ 0x23 ∷ 0x24 ∷ 0x25 ∷ 0x26 ∷ 0x27 ∷ 0x28 ∷ 0x29 ∷ 0x2A ∷ 0x2B ∷ 0x2D ∷ 0x2C
    ∷ 0x30 ∷ [])
    ≡ map Some (Un Not ∷ Un Neg ∷ Un Zero ∷ Bin Add ∷ Bin Sub ∷ Bin Mul ∷ Bin Udiv ∷ Bin Urem ∷ Bin And ∷ Bin Or ∷ Bin Xor ∷ Bin Shl
    ∷ Bin Lshr ∷ Bin Equal ∷ Bin Ult
    ∷ Bin Ule ∷ Bin Slt ∷ Ite ∷ [])
unfolding operator
codes = refl

no_codes : map operator (0x00 ∷ 0x01 ∷ 0x02 ∷ 0x03 ∷ 0x0F ∷ 0x13 ∷ 0x1F ∷ 0x2E ∷ 0x2F ∷ 0x31 ∷ 0xFF ∷ []) ≡ None ∷ None ∷ None ∷ None
    ∷ None ∷ None ∷ None ∷ None ∷ None ∷ None ∷ None ∷ []
unfolding operator
no_codes = refl

-- constants have four bytes, a table's symbols one, a trace's two, the highest first; neither file has the other's symbols
operands : (read_token Table (0x01 ∷ 0x01 ∷ 0x02 ∷ 0x03 ∷ 0x04 ∷ []) ≡ Some (Const 16909060))
    × (read_token Table (0x02 ∷ 0x05 ∷ 0x06 ∷ []) ≡ Some (Symbol 5))
    × (read_token Trace (0x03 ∷ 0x05 ∷ 0x06 ∷ []) ≡ Some (Symbol 1286)) × (read_token Table (0x03 ∷ 0x05 ∷ 0x06 ∷ []) ≡ None)
    × (read_token Trace (0x02 ∷ 0x05 ∷ 0x06 ∷ []) ≡ None)
    × (read_token Trace (0x03 ∷ 0x05 ∷ []) ≡ None)
unfolding read_token operator
operands = (refl, refl, refl, refl, refl, refl)

-- c, a, b: under c = s0, a = s1, b = s2
arms : (value (env_of (2 ∷ 5 ∷ 6 ∷ [])) (Symbol 0 ∷ Symbol 1 ∷ Symbol 2 ∷ Ite ∷ []) ≡ 5)
    × (value (env_of (0 ∷ 5 ∷ 6 ∷ [])) (Symbol 0 ∷ Symbol 1 ∷ Symbol 2 ∷ Ite ∷ []) ≡ 6)
    × (value (env_of (7 ∷ 2 ∷ [])) (Symbol 0 ∷ Symbol 1 ∷ Bin Udiv ∷ []) ≡ 3)
unfolding value binary
arms = (refl, refl, refl)

-- x - 1, of the small rule
one_less : List ℕ
one_less = 0x02 ∷ 0x00 ∷ 0x01 ∷ 0x00 ∷ 0x00 ∷ 0x00 ∷ 0x01 ∷ 0x21 ∷ []

accepted : parse Table (below 1) one_less ≡ Whole (Symbol 0 ∷ Const 1 ∷ Bin Sub ∷ [])
unfolding parse_from read_token operator fits one_less
accepted = refl

-- no input may be read: it breaks at its first token
unreadable : parse Table (below 0) one_less ≡ Breaks one_less
unfolding parse_from read_token operator fits one_less
unreadable = refl

-- a table's symbol in a trace
other-kind : parse Trace (below 1) one_less ≡ Breaks one_less
unfolding parse_from read_token operator fits one_less
other-kind = refl

-- two words are left: it breaks at its end; and so does an empty expression
two-words : parse Table (below 1) (0x02 ∷ 0x00 ∷ 0x02 ∷ 0x00 ∷ []) ≡ Breaks []
unfolding parse_from read_token operator fits
two-words = refl

empty : parse Table (below 1) [] ≡ Breaks []
unfolding parse_from
empty = refl

-- an operand is missing: it breaks at the token
short : parse Table (below 1) (0x02 ∷ 0x00 ∷ 0x01 ∷ 0x00 ∷ []) ≡ Breaks (0x01 ∷ 0x00 ∷ [])
unfolding parse_from read_token operator fits
short = refl

-- an empty stack is popped: by a sum of one word, by an ite of two
pops-empty : (parse Table (below 1) (0x12 ∷ []) ≡ Breaks (0x12 ∷ []))
    × (parse Table (below 1) (0x02 ∷ 0x00 ∷ 0x20 ∷ []) ≡ Breaks (0x20 ∷ []))
    × (parse Table (below 1) (0x02 ∷ 0x00 ∷ 0x02 ∷ 0x00 ∷ 0x30 ∷ []) ≡ Breaks (0x30 ∷ []))
unfolding parse_from read_token operator fits
pops-empty = (refl, refl, refl)

-- k symbols, then k - 1 sums
deep : (k sums : ℕ) → List ℕ
deep zero n = replicate n 0x20
deep (suc k) n = 0x02 ∷ 0x00 ∷ deep k n

abbrev verdict : Parsed → ℕ
verdict (Whole e) = 0
verdict (Breaks bs) = length bs

-- 16 words of depth pass in a table; the seventeenth breaks it
sixteen : verdict (parse Table (below 1) (deep 16 15)) ≡ 0
unfolding parse_from read_token operator fits deep
sixteen = refl

seventeen : verdict (parse Table (below 1) (deep 17 16)) ≡ 18
unfolding parse_from read_token operator fits deep
seventeen = refl

-- and 17 in a trace
abbrev deep_trace : (k sums : ℕ) → List ℕ
deep_trace zero n = replicate n 0x20
deep_trace (suc k) n = 0x03 ∷ 0x00 ∷ 0x00 ∷ deep_trace k n

eighteen : (verdict (parse Trace (below 1) (deep_trace 17 16)) ≡ 0) × (verdict (parse Trace (below 1) (deep_trace 18 17)) ≡ 20)
unfolding parse_from read_token operator fits
eighteen = (refl, refl)
