-- SMT-LIB 2.6: the part of its language that a script of ours uses, and what the standard says it means: the theory FixedSizeBitVectors and
-- the logic QF_BV, which abbreviates bvsub, bvxor, bvule and bvslt. A bit vector of width w is the number that its bits spell, the
-- standard's bv2nat. Nothing here is about our words: that the operators are ours is a law (`SmtLaws`).
use Rattle.std.specs.Prelude.{ℕ, ◌+◌, ◌-◌, ◌*◌, ◌/◌, ◌%◌, ◌^◌, Bool, true, false, cond, not, ◌&&◌, ◌||◌, List, [], ◌∷◌, eqb, ltb}
use Rattle.std.specs.Int.Bits.{bit_and, bit_or, bit_xor}
use Rattle.expr.specs.Eval.{Env, update}

-- ---- the theory

pub data BvUnary : Type 0 where
  bvnot bvneg : BvUnary

pub data BvBinary : Type 0 where
  bvadd bvsub bvmul bvudiv bvurem bvand bvor bvxor bvshl bvlshr : BvBinary

pub data Relation : Type 0 where
  equals distinct bvult bvule bvslt : Relation

-- nat2bv: the vector of a number has its lowest w bits
abbrev pub vector : (w n : ℕ) → ℕ
vector w n = n % 2 ^ w

unfoldable pub bv_unary : (w : ℕ) → BvUnary → ℕ → ℕ
bv_unary w bvnot a = 2 ^ w - 1 - a
bv_unary w bvneg a = vector w (2 ^ w - a)

-- a quotient by zero has all bits set, a remainder by zero is the dividend; (bvsub a b) is (bvadd a (bvneg b))
unfoldable pub bv_binary : (w : ℕ) → BvBinary → (a b : ℕ) → ℕ
bv_binary w bvadd a b = vector w (a + b)
bv_binary w bvsub a b = vector w (a + vector w (2 ^ w - b))
bv_binary w bvmul a b = vector w (a * b)
bv_binary w bvudiv a b = cond (eqb b 0) (2 ^ w - 1) (a / b)
bv_binary w bvurem a b = cond (eqb b 0) a (a % b)
bv_binary w bvand a b = bit_and a b
bv_binary w bvor a b = bit_or a b
bv_binary w bvxor a b = bit_xor a b
bv_binary w bvshl a b = vector w (a * 2 ^ b)
bv_binary w bvlshr a b = vector w (a / 2 ^ b)

-- the highest bit, (_ extract w-1 w-1)
abbrev pub sign : (w a : ℕ) → ℕ
sign w a = a / 2 ^ (w - 1) % 2

-- of two signs that differ, 1 is less
unfoldable pub related : (w : ℕ) → Relation → (a b : ℕ) → Bool
related w equals a b = eqb a b
related w distinct a b = not (eqb a b)
related w bvult a b = ltb a b
related w bvule a b = ltb a b || eqb a b
related w bvslt a b = (eqb (sign w a) 1 && eqb (sign w b) 0) || (eqb (sign w a) (sign w b) && ltb a b)

-- ---- terms of width 32

-- a constant of eight hexadecimal digits; the declared symbol sN; the variable xK that a `let` binds; an operator; (ite (R a b) t u);
-- (let ((xK t)) body)
pub data Term : Type 0 where
  hex : (n : ℕ) → Term
  declared : (s : ℕ) → Term
  slot : (k : ℕ) → Term
  one : BvUnary → (a : Term) → Term
  two : BvBinary → (a b : Term) → Term
  choose : Relation → (a b t u : Term) → Term
  bind : (k : ℕ) → (t body : Term) → Term

-- where σ has the values of the declared symbols, and ξ those of the variables bound around the term
unfoldable pub word_in : (σ ξ : Env) → Term → ℕ
word_in σ ξ (hex n) = vector 32 n
word_in σ ξ (declared s) = σ s
word_in σ ξ (slot k) = ξ k
word_in σ ξ (one o a) = bv_unary 32 o (word_in σ ξ a)
word_in σ ξ (two o a b) = bv_binary 32 o (word_in σ ξ a) (word_in σ ξ b)
word_in σ ξ (choose r a b t u) = cond (related 32 r (word_in σ ξ a) (word_in σ ξ b)) (word_in σ ξ t) (word_in σ ξ u)
word_in σ ξ (bind k t body) = word_in σ (update ξ k (word_in σ ξ t)) body

-- a term that no `let` is around
abbrev pub word_of : (σ : Env) → Term → ℕ
word_of σ t = word_in σ (λ k. 0) t

-- ---- formulas and scripts

-- false; (or (R a b) rest); (and (R a b) rest)
pub data Formula : Type 0 where
  never : Formula
  either : Relation → (a b : Term) → (rest : Formula) → Formula
  both : Relation → (a b : Term) → (rest : Formula) → Formula

unfoldable pub holds : (σ : Env) → Formula → Bool
holds σ never = false
holds σ (either r a b rest) = related 32 r (word_of σ a) (word_of σ b) || holds σ rest
holds σ (both r a b rest) = related 32 r (word_of σ a) (word_of σ b) && holds σ rest

-- (= sN t)
pub record Equation : Type 0 where
  pub symbol : ℕ
  pub term : Term

-- the declared symbols, the equations that are asserted, and the last assertion
pub record Script : Type 0 where
  pub symbols : List ℕ
  pub equations : List Equation
  pub claim : Formula

abbrev pub solves : (σ : Env) → List Equation → Bool
solves σ [] = true
solves σ (q ∷ qs) = eqb (σ q.symbol) (word_of σ q.term) && solves σ qs

-- all assertions hold: a solver answers `sat` exactly if some values of the declared symbols satisfy the script
unfoldable pub satisfies : (σ : Env) → Script → Bool
satisfies σ c = solves σ c.equations && holds σ c.claim
