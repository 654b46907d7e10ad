-- Request 2026-02: the text of a script, in SMT-LIB 2's syntax: one command, or one test of the last assertion, to a line.
use Rattle.std.specs.Prelude.{ℕ, zero, suc, ◌+◌, ◌/◌, ◌%◌, ◌^◌, cond, List, [], ◌∷◌, ◌++◌, ltb}
use Prim.Native.String.{String}
use Rattle.trace.specs.Trace.{Stmt}
use Rattle.write.specs.Ascii.{ascii}
use Rattle.write.specs.Decimal.{decimal}
use Rattle.script.specs.Smt.{BvUnary, bvnot, bvneg, BvBinary, bvadd, bvsub, bvmul, bvudiv, bvurem, bvand, bvor, bvxor, bvshl, bvlshr}
use Rattle.script.specs.Smt.{Relation, equals, distinct, bvult, bvule, bvslt, Term, hex, declared, slot, one, two, choose, bind}
use Rattle.script.specs.Smt.{Formula, never, either, both, Equation, Script}
use Rattle.script.specs.Script.{script_of}

-- ---- constants

-- 0 to 9, a to f
abbrev pub hex_digit : ℕ → ℕ
hex_digit d = cond (ltb d 10) (48 + d) (87 + d)

-- the last k hexadecimal digits of a number
abbrev pub hex_digits : (k n : ℕ) → List ℕ
hex_digits zero n = []
hex_digits (suc k) n = hex_digit (n / 16 ^ k % 16) ∷ hex_digits k n

unfoldable pub constant : ℕ → List ℕ
constant n = ascii "#x" ++ hex_digits 8 n

-- ---- names

abbrev pub symbol_name : ℕ → List ℕ
symbol_name s = ascii "s" ++ decimal s

abbrev pub slot_name : ℕ → List ℕ
slot_name k = ascii "x" ++ decimal k

abbrev pub bv_unary_name : BvUnary → String
bv_unary_name bvnot = "bvnot"
bv_unary_name bvneg = "bvneg"

abbrev pub bv_binary_name : BvBinary → String
bv_binary_name bvadd = "bvadd"
bv_binary_name bvsub = "bvsub"
bv_binary_name bvmul = "bvmul"
bv_binary_name bvudiv = "bvudiv"
bv_binary_name bvurem = "bvurem"
bv_binary_name bvand = "bvand"
bv_binary_name bvor = "bvor"
bv_binary_name bvxor = "bvxor"
bv_binary_name bvshl = "bvshl"
bv_binary_name bvlshr = "bvlshr"

abbrev pub relation_name : Relation → String
relation_name equals = "="
relation_name distinct = "distinct"
relation_name bvult = "bvult"
relation_name bvule = "bvule"
relation_name bvslt = "bvslt"

-- ---- terms

-- (f a), (f a b)
abbrev pub apply : (f : String) (a : List ℕ) → List ℕ
apply f a = ascii "(" ++ ascii f ++ ascii " " ++ a ++ ascii ")"

abbrev pub apply_two : (f : String) (a b : List ℕ) → List ℕ
apply_two f a b = ascii "(" ++ ascii f ++ ascii " " ++ a ++ ascii " " ++ b ++ ascii ")"

-- (ite c t u)
abbrev pub ite_text : (c t u : List ℕ) → List ℕ
ite_text c t u = ascii "(ite " ++ c ++ ascii " " ++ t ++ ascii " " ++ u ++ ascii ")"

abbrev pub term_text : Term → List ℕ
term_text (hex n) = constant n
term_text (declared s) = symbol_name s
term_text (slot k) = slot_name k
term_text (one o a) = apply (bv_unary_name o) (term_text a)
term_text (two o a b) = apply_two (bv_binary_name o) (term_text a) (term_text b)
term_text (choose r a b t u) = ite_text (apply_two (relation_name r) (term_text a) (term_text b)) (term_text t) (term_text u)
term_text (bind k t body) = ascii "(let ((" ++ slot_name k ++ ascii " " ++ term_text t ++ ascii ")) " ++ term_text body ++ ascii ")"

-- ---- lines

-- a test to a line, and all closing parentheses at the end
abbrev pub formula_text : Formula → List ℕ
formula_text never = ascii "false"
formula_text (either r a b rest) =
    ascii "(or " ++ apply_two (relation_name r) (term_text a) (term_text b) ++ ascii "\n" ++ formula_text rest ++ ascii ")"
formula_text (both r a b rest) =
    ascii "(and " ++ apply_two (relation_name r) (term_text a) (term_text b) ++ ascii "\n" ++ formula_text rest ++ ascii ")"

abbrev pub declaration : (s : ℕ) → List ℕ
declaration s = ascii "(declare-const " ++ symbol_name s ++ ascii " (_ BitVec 32))\n"

abbrev pub declarations : List ℕ → List ℕ
declarations [] = []
declarations (s ∷ ss) = declaration s ++ declarations ss

abbrev pub equation_line : (s : ℕ) → Term → List ℕ
equation_line s t = ascii "(assert (= " ++ symbol_name s ++ ascii " " ++ term_text t ++ ascii "))\n"

abbrev pub equation_lines : List Equation → List ℕ
equation_lines [] = []
equation_lines (q ∷ qs) = equation_line q.symbol q.term ++ equation_lines qs

abbrev pub text_of : Script → List ℕ
text_of c =
    ascii "(set-logic QF_BV)\n" ++ declarations c.symbols ++ equation_lines c.equations
    ++ ascii "(assert\n" ++ formula_text c.claim ++ ascii ")\n(check-sat)\n"

unfoldable pub script_text : (S : ℕ) → List Stmt → List ℕ
script_text S ts = text_of (script_of S ts)
