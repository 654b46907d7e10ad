-- What the code's values mean: the text of a token, what a statement adds to a part of the script, and the last Assert.
use Rattle.std.specs.Prelude.{ℕ, suc, ◌+◌, ◌-◌, cond, List, [], ◌∷◌, ◌++◌, replicate}
use Prim.Native.String.{String}
use Rattle.expr.specs.declared.word.Unary.{Unary}
use Rattle.expr.specs.declared.word.Unary.TheVariants.{Not, Neg, Zero}
use Rattle.expr.specs.declared.word.Binary.{Binary}
use Rattle.expr.specs.declared.word.Binary.TheVariants.{Add, Sub, Mul, Udiv, Urem, And, Or, Xor, Shl, Lshr, Equal, Ult, Ule, Slt}
use Rattle.expr.specs.declared.token.Token.{Token}
use Rattle.expr.specs.Expr.{pops}
use Rattle.file.specs.Outcome.{Kind, Assume, Assert, Bound}
use Rattle.file.specs.File.{Body, Good, Bad, Input, Accepted, Refused}
use Rattle.trace.specs.declared.read.Action.{Action}
use Rattle.trace.specs.declared.read.Action.TheVariants as A
use Rattle.trace.specs.Trace.{Stmt, Assign, Test}
use Rattle.trace.specs.Asserts.{is_assert, asserted}
use Rattle.write.specs.Ascii.{ascii}
use Rattle.script.specs.Script.{token_term, expr_term, numbers_from}
use Rattle.script.specs.ScriptText.{slot_name, term_text, declaration, declarations, equation_line, script_text}

-- ---- an operator

-- what stands in front of its first variable
abbrev pub unary_front : Unary → String
unary_front Not = "(bvnot "
unary_front Neg = "(bvneg "
unary_front Zero = "(ite (= "

abbrev pub binary_front : Binary → String
binary_front Add = "(bvadd "
binary_front Sub = "(bvsub "
binary_front Mul = "(bvmul "
binary_front Udiv = "(bvudiv "
binary_front Urem = "(bvurem "
binary_front And = "(bvand "
binary_front Or = "(bvor "
binary_front Xor = "(bvxor "
binary_front Shl = "(bvshl "
binary_front Lshr = "(bvlshr "
binary_front Equal = "(ite (= "
binary_front Ult = "(ite (bvult "
binary_front Ule = "(ite (bvule "
binary_front Slt = "(ite (bvslt "

-- and what stands behind the last one
abbrev pub unary_back : Unary → String
unary_back Not = ")"
unary_back Neg = ")"
unary_back Zero = " #x00000000) #x00000001 #x00000000)"

abbrev pub binary_back : Binary → String
binary_back Add = ")"
binary_back Sub = ")"
binary_back Mul = ")"
binary_back Udiv = ")"
binary_back Urem = ")"
binary_back And = ")"
binary_back Or = ")"
binary_back Xor = ")"
binary_back Shl = ")"
binary_back Lshr = ")"
binary_back Equal = ") #x00000001 #x00000000)"
binary_back Ult = ") #x00000001 #x00000000)"
binary_back Ule = ") #x00000001 #x00000000)"
binary_back Slt = ") #x00000001 #x00000000)"

-- ---- a token

-- the binding of a word to its variable
abbrev pub binding_of : (k : ℕ) (word : List ℕ) → List ℕ
binding_of k word = ascii "(let ((" ++ slot_name k ++ ascii " " ++ word ++ ascii ")) "

-- the binding of a token where d words are held
abbrev pub binding : (d : ℕ) → Token → List ℕ
binding d t = binding_of (d - pops t) (term_text (token_term (d - pops t) t))

-- ---- what a statement adds to a part of the script

pub data Part : Type 0 where
  Declarations : Part
  Equations : Part
  Tests : Part

abbrev pub opening : Kind → String
opening Assume = "(and (distinct #x00000000 "
opening Assert = "(or (= #x00000000 "
opening Bound = "(and (distinct #x00000000 "

abbrev pub test_line : Kind → List Token → List ℕ
test_line k e = ascii (opening k) ++ term_text (expr_term e) ++ ascii ")\n"

abbrev pub piece : Part → Stmt → List ℕ
piece Declarations (Assign p x e) = declaration x
piece Declarations (Test k p e) = []
piece Equations (Assign p x e) = equation_line x (expr_term e)
piece Equations (Test k p e) = []
piece Tests (Assign p x e) = []
piece Tests (Test k p e) = test_line k e

abbrev pub piece_in : Part → Body Stmt → List ℕ
piece_in part (Good t) = piece part t
piece_in part (Bad r) = []

abbrev pub pieces : Part → List Stmt → List ℕ
pieces part [] = []
pieces part (t ∷ ts) = piece part t ++ pieces part ts

-- ---- the last Assert

abbrev pub test_count : List Stmt → ℕ
test_count [] = 0
test_count (Assign p x e ∷ ts) = test_count ts
test_count (Test k p e ∷ ts) = suc (test_count ts)

-- by what the next statement does, which is the k-th
abbrev pub seen_after : Action → (seen : ℕ) → ℕ
seen_after (A.Assign x) seen = seen
seen_after (A.Test d) seen = seen + 1

abbrev pub statements_after : Action → (k statements : ℕ) → ℕ
statements_after (A.Assign x) k statements = statements
statements_after (A.Test d) k statements = cond (is_assert d) k statements

abbrev pub tests_after : Action → (seen tests : ℕ) → ℕ
tests_after (A.Assign x) seen tests = tests
tests_after (A.Test d) seen tests = cond (is_assert d) (seen + 1) tests

-- ---- the whole script

-- what stands before the last assertion
abbrev pub definitions_text : Input Stmt → List ℕ
definitions_text (Accepted head ts) =
    ascii "(set-logic QF_BV)\n" ++ declarations (numbers_from 0 head.inputs) ++ pieces Declarations ts ++ pieces Equations ts
definitions_text (Refused reply offset) = []

-- the tests' lines, then false, then a parenthesis for each
abbrev pub claim_text : List Stmt → List ℕ
claim_text ts = ascii "(assert\n" ++ pieces Tests (asserted ts) ++ ascii "false" ++ replicate (test_count (asserted ts)) 41

abbrev pub script_in : Input Stmt → List ℕ
script_in (Accepted head ts) = script_text head.inputs ts
script_in (Refused reply offset) = []
