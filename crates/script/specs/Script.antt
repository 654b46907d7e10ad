-- Request 2026-02: the script of a trace. The stack's words are variables, x0 the deepest: a token binds the one that it pushes, so its
-- term depends only on the token and the depth, and each expression is written once.
use Rattle.std.specs.Prelude.{ℕ, zero, suc, ◌+◌, ◌-◌, List, [], ◌∷◌, ◌++◌, map}
use Rattle.expr.specs.declared.word.Unary.{Unary}
use Rattle.expr.specs.declared.word.Unary.TheVariants.{Not, Neg, Zero}
use Rattle.expr.specs.declared.word.Binary.{Binary}
use Rattle.expr.specs.declared.word.Binary.TheVariants.{Add, Sub, Mul, Udiv, Urem, And, Or, Xor, Shl, Lshr, Equal, Ult, Ule, Slt}
use Rattle.expr.specs.declared.token.Token.{Token}
use Rattle.expr.specs.declared.token.Token.TheVariants.{Const, Symbol, Un, Bin, Ite}
use Rattle.expr.specs.Expr.{pops, after}
use Rattle.expr.specs.Eval.{Env}
use Rattle.file.specs.Outcome.{Kind, Assume, Assert, Bound}
use Rattle.trace.specs.Trace.{Stmt, Assign, Test}
use Rattle.trace.specs.Asserts.{asserted}
use Rattle.script.specs.Smt.{bvnot, bvneg, bvadd, bvsub, bvmul, bvudiv, bvurem, bvand, bvor, bvxor, bvshl, bvlshr}
use Rattle.script.specs.Smt.{Relation, equals, distinct, bvult, bvule, bvslt, Term, hex, declared, slot, one, two, choose, bind}
use Rattle.script.specs.Smt.{Formula, never, either, both, Equation, Script}

-- ---- an expression

-- tests give 0 or 1
abbrev pub test_term : Relation → (a b : Term) → Term
test_term r a b = choose r a b (hex 1) (hex 0)

abbrev pub unary_term : Unary → (a : Term) → Term
unary_term Not a = one bvnot a
unary_term Neg a = one bvneg a
unary_term Zero a = test_term equals a (hex 0)

abbrev pub binary_term : Binary → (a b : Term) → Term
binary_term Add a b = two bvadd a b
binary_term Sub a b = two bvsub a b
binary_term Mul a b = two bvmul a b
binary_term Udiv a b = two bvudiv a b
binary_term Urem a b = two bvurem a b
binary_term And a b = two bvand a b
binary_term Or a b = two bvor a b
binary_term Xor a b = two bvxor a b
binary_term Shl a b = two bvshl a b
binary_term Lshr a b = two bvlshr a b
binary_term Equal a b = test_term equals a b
binary_term Ult a b = test_term bvult a b
binary_term Ule a b = test_term bvule a b
binary_term Slt a b = test_term bvslt a b

-- the word that a token pushes, where it pops down to k words
abbrev pub token_term : (k : ℕ) → Token → Term
token_term k (Const n) = hex n
token_term k (Symbol s) = declared s
token_term k (Un o) = unary_term o (slot k)
token_term k (Bin o) = binary_term o (slot k) (slot (k + 1))
token_term k Ite = choose distinct (slot k) (hex 0) (slot (k + 1)) (slot (k + 2))

-- where d words are held
abbrev pub term_from : (d : ℕ) → List Token → Term
term_from d [] = slot 0
term_from d (t ∷ e) = bind (d - pops t) (token_term (d - pops t) t) (term_from (after d t) e)

unfoldable pub expr_term : List Token → Term
expr_term e = term_from 0 e

-- ---- a trace

-- n numbers from x on
abbrev pub numbers_from : (x n : ℕ) → List ℕ
numbers_from x zero = []
numbers_from x (suc n) = x ∷ numbers_from (suc x) n

abbrev pub assigned : List Stmt → List ℕ
assigned [] = []
assigned (Assign p x e ∷ ts) = x ∷ assigned ts
assigned (Test k p e ∷ ts) = assigned ts

-- each Assign
abbrev pub equations_of : List Stmt → List Equation
equations_of [] = []
equations_of (Assign p x e ∷ ts) = record { symbol = x; term = expr_term e } ∷ equations_of ts
equations_of (Test k p e ∷ ts) = equations_of ts

-- a false Assert, or what follows it; a true Assume, or a true test of the bound, and what follows it
abbrev pub tested : Kind → (e : List Token) → (rest : Formula) → Formula
tested Assume e rest = both distinct (hex 0) (expr_term e) rest
tested Assert e rest = either equals (hex 0) (expr_term e) rest
tested Bound e rest = both distinct (hex 0) (expr_term e) rest

-- some Assert is false while all tests before it are true
unfoldable pub violation : List Stmt → Formula
violation [] = never
violation (Assign p x e ∷ ts) = violation ts
violation (Test k p e ∷ ts) = tested k e (violation ts)

-- the inputs and then the assigned symbols, in their order; nothing is said of the tests behind the last Assert
unfoldable pub script_of : (S : ℕ) → List Stmt → Script
script_of S ts = record { symbols = numbers_from 0 S ++ assigned ts; equations = equations_of ts; claim = violation (asserted ts) }

-- the inputs of a solution: the values of the first S symbols
abbrev pub inputs_of : (S : ℕ) → Env → List ℕ
inputs_of S τ = map τ (numbers_from 0 S)
