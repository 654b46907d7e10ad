-- The whole script is its parts one after the other: the declarations and the equations of all statements, the tests up to the last Assert.
use Rattle.std.proofs.Common.{ℕ, suc, ◌≤◌, arith, ◌≡◌, refl, sym, ap, ap₂, ◌∙◌, List, [], ◌∷◌, ◌++◌, append_assoc, length, take, replicate}
use Rattle.std.proofs.Common.{take_all}
use Rattle.expr.specs.declared.token.Token.{Token}
use Rattle.file.specs.Outcome.{Kind, Assume, Assert, Bound}
use Rattle.file.specs.File.{Head, header_inputs, header_count, Accepted}
use Rattle.file.specs.Shown.{listed}
use Rattle.trace.specs.Trace.{Stmt, Assign, Test, read_trace}
use Rattle.trace.specs.Asserts.{asserted}
use Rattle.trace.specs.AssertsLaws.{asserted-few, asserted-take}
use Rattle.trace.proofs.Passes.{Known, known}
use Rattle.file.proofs.FileLaws.{symbols_in_two-bytes}
use Rattle.write.specs.Ascii.{ascii}
use Rattle.script.specs.Shown.{Declarations, Equations, Tests}
use Rattle.script.specs.Smt.{Formula}
use Rattle.script.specs.Script.{expr_term, numbers_from, assigned, equations_of, tested, violation, script_of}
use Rattle.script.specs.ScriptText.{constant, term_text, formula_text, declaration, declarations, equation_line, equation_lines}
use Rattle.script.specs.ScriptText.{script_text}
use Rattle.script.specs.Shown.{test_line, pieces, test_count, definitions_text, claim_text, script_in}
use Rattle.script.proofs.Letters.{replicate-end}

-- ---- declarations and equations

declared-pieces : (ts : List Stmt) → pieces Declarations ts ≡ declarations (assigned ts)
declared-pieces [] = refl
declared-pieces (Assign p x e ∷ ts) = ap (λ r. declaration x ++ r) (declared-pieces ts)
declared-pieces (Test k p e ∷ ts) = declared-pieces ts

equation_pieces : (ts : List Stmt) → pieces Equations ts ≡ equation_lines (equations_of ts)
equation_pieces [] = refl
equation_pieces (Assign p x e ∷ ts) = ap (λ r. equation_line x (expr_term e) ++ r) (equation_pieces ts)
equation_pieces (Test k p e ∷ ts) = equation_pieces ts

declarations-append : (xs ys : List ℕ) → declarations xs ++ declarations ys ≡ declarations (xs ++ ys)
declarations-append [] ys = refl
declarations-append (x ∷ xs) ys =
    append_assoc (declaration x) (declarations xs) (declarations ys) ∙ ap (λ r. declaration x ++ r) (declarations-append xs ys)

-- ---- the tests

line_ends : (xs : List ℕ) → xs ++ ascii ")" ++ ascii "\n" ≡ xs ++ ascii ")\n"
line_ends [] = refl
line_ends (x ∷ xs) = ap {B = List ℕ} (λ r. x ∷ r) (line_ends xs)

tested-text : (k : Kind) (e : List Token) (f : Formula) → formula_text (tested k e f) ≡ test_line k e ++ formula_text f ++ ascii ")"
unfolding constant
tested-text Assume e f =
    ap (λ r. ascii "(and (distinct #x00000000 " ++ r ++ formula_text f ++ ascii ")") (line_ends (term_text (expr_term e)))
tested-text Assert e f = ap (λ r. ascii "(or (= #x00000000 " ++ r ++ formula_text f ++ ascii ")") (line_ends (term_text (expr_term e)))
tested-text Bound e f =
    ap (λ r. ascii "(and (distinct #x00000000 " ++ r ++ formula_text f ++ ascii ")") (line_ends (term_text (expr_term e)))

-- the tests' lines, then false, then a parenthesis for each
abbrev linear : List Stmt → List ℕ
linear us = pieces Tests us ++ ascii "false" ++ replicate (test_count us) 41

-- a test in front of them
front : (l : List ℕ) (us : List Stmt)
    → l ++ pieces Tests us ++ ascii "false" ++ replicate (suc (test_count us)) 41 ≡ l ++ linear us ++ ascii ")"
front l us =
    let c = replicate {A = ℕ} (test_count us) 41 in
    ap (λ r. l ++ pieces Tests us ++ ascii "false" ++ r) (sym (replicate-end (test_count us) 41))
    ∙ sym (append_assoc (l ++ pieces Tests us ++ ascii "false") c (41 ∷ []))
    ∙ ap (λ r. r ++ 41 ∷ [])
    (ap (λ r. r ++ c) (append_assoc l (pieces Tests us) (ascii "false")) ∙ append_assoc l (pieces Tests us ++ ascii "false") c)

claim-linear : (us : List Stmt) → linear us ≡ formula_text (violation us)
unfolding violation
claim-linear [] = refl
claim-linear (Assign p x e ∷ us) = claim-linear us
claim-linear (Test k p e ∷ us) =
    front (test_line k e) us ∙ ap (λ r. test_line k e ++ r ++ ascii ")") (claim-linear us) ∙ sym (tested-text k e (violation us))

-- ---- the whole

tests-few : (ts : List Stmt) → test_count ts ≤ length ts
tests-few [] = omega arith
tests-few (Assign p x e ∷ ts) = omega (arith, tests-few ts)
tests-few (Test k p e ∷ ts) = omega (arith, tests-few ts)

whole : (head : Head) (ts : List Stmt)
    → definitions_text (Accepted head ts) ++ claim_text ts ++ ascii ")\n(check-sat)\n" ≡ script_text head.inputs ts
unfolding script_text script_of
whole head ts =
    let S = head.inputs in
    let first : List ℕ = ascii "(set-logic QF_BV)\n" in
    let middle : List ℕ = ascii "(assert\n" in
    let last : List ℕ = ascii ")\n(check-sat)\n" in
    let D = declarations (numbers_from 0 S ++ assigned ts) in
    let Q = equation_lines (equations_of ts) in
    let defined : definitions_text (Accepted head ts) ≡ first ++ D ++ Q =
    ap₂ (λ x y. first ++ x ++ y)
    (ap (λ r. declarations (numbers_from 0 S) ++ r) (declared-pieces ts) ∙ declarations-append (numbers_from 0 S) (assigned ts))
    (equation_pieces ts) in
    ap₂ (λ x y. x ++ y ++ last) defined (ap (λ r. middle ++ r) (claim-linear (asserted ts)))
    ∙ ap (λ r. r ++ last) (sym (append_assoc (first ++ D ++ Q) middle (formula_text (violation (asserted ts)))))

module _ {s : List ℕ} (v : Known s) where
  listed-is : listed (read_trace s) ≡ v.ts
  listed-is = ap listed v.is

  pub last-inside : length (asserted (listed (read_trace s))) ≤ header_count s
  last-inside = omega (arith, asserted-few (listed (read_trace s)), ap length listed-is, v.count)

  pub tests-inside : test_count (asserted (listed (read_trace s))) ≤ 4096
  tests-inside = omega (arith, tests-few (asserted (listed (read_trace s))), last-inside, v.few)

  pub definitions_are : (i n : ℕ) → i ≡ header_inputs s → n ≡ header_count s
      → ascii "(set-logic QF_BV)\n" ++ declarations (numbers_from 0 i) ++ pieces Declarations (take n (listed (read_trace s)))
      ++ pieces Equations (take n (listed (read_trace s))) ≡ definitions_text (read_trace s)
  definitions_are i n p q =
      let all : take n (listed (read_trace s)) ≡ v.ts = ap (take n) listed-is ∙ take_all n v.ts (omega (arith, v.count)) in
      rw (all, p ∙ v.inputs) (sym (ap definitions_text v.is))

  pub script_parts : definitions_text (read_trace s) ++ claim_text (listed (read_trace s)) ++ ascii ")\n(check-sat)\n"
      ≡ script_in (read_trace s)
  script_parts =
      ap (λ x. definitions_text x ++ claim_text (listed x) ++ ascii ")\n(check-sat)\n") v.is
      ∙ whole v.head v.ts ∙ sym (ap script_in v.is)

pub claim_are : (ts : List Stmt) (m t : ℕ) → m ≡ length (asserted ts) → t ≡ test_count (asserted ts)
    → ascii "(assert\n" ++ pieces Tests (take m ts) ++ ascii "false" ++ replicate t 41 ≡ claim_text ts
claim_are ts m t p q =
    ap₂ (λ us t. ascii "(assert\n" ++ pieces Tests us ++ ascii "false" ++ replicate {A = ℕ} t 41)
    (ap (λ m. take m ts) p ∙ asserted-take ts) q

-- ---- what keeps the definitions' and the claim's letters few

pub ruleset definitions = (known, symbols_in_two-bytes)

pub ruleset claims = (known, last-inside, tests-inside)
