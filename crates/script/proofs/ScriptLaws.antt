-- The script of an accepted trace says what judging says.
--
-- Why. A token's variable is the place of the word that it pushes, counted from the stack's bottom: so the variables bound around a token
-- hold the stack, word for word (`Held`), the term of each token means what the token pushes, and x0 is the expression's value. In an
-- environment that solves the equations, every symbol that a statement may read has the value that judging has come to there: by the
-- equation of its Assign, whose own expression reads only symbols before it. So each test is as true in the formula as when it is judged
-- (`model_judged`), and the nested formula walks the tests as judging does; those behind the last Assert make nothing unsafe
-- (`claim-cut`). The values past any stop do solve the equations, since no symbol is assigned twice; and since the equations leave no
-- choice but that of the inputs, a model's inputs are a valuation for which the trace is unsafe.
use Rattle.std.specs.Prelude.{ℕ, zero, suc, ◌+◌, ◌≤◌, ◌<◌, ◌≡◌, Bool, false, cond, ◌↔◌, eqb, ltb}
use Rattle.std.proofs.Common.{arith, add-zero, zero-add, mod-eq_of_lt, ◌∙◌, subst, eqb-true, eq-eqb, ne_eqb, ltb-true, List, [], ◌∷◌, map}
use Rattle.std.proofs.Math.Path.{refl, sym, ap, ap₂}
use Rattle.std.proofs.Math.Bool.{true, not, ◌&&◌, ◌||◌}
use Rattle.std.proofs.Math.ListN.{length}
use Rattle.std.proofs.lemmas.Bool.{eqb-false}
use Rattle.expr.specs.declared.File.TheVariants.{Trace}
use Rattle.expr.specs.Lists.{All, and_both, both_and}
use Rattle.expr.specs.declared.word.Unary.{Unary}
use Rattle.expr.specs.declared.word.Unary.TheVariants.{Not, Neg, Zero}
use Rattle.expr.specs.declared.word.Binary.{Binary}
use Rattle.expr.specs.declared.word.Binary.TheVariants.{Add, Sub, Mul, Udiv, Urem, And, Or, Xor, Shl, Lshr, Equal, Ult, Ule, Slt}
use Rattle.expr.specs.Word.{Word, test, unary, binary, choice}
use Rattle.expr.specs.declared.token.Token.{Token}
use Rattle.expr.specs.declared.token.Token.TheVariants.{Const, Symbol, Un, Bin, Ite}
use Rattle.expr.specs.TokenLaws.{Holds}
use Rattle.expr.specs.Expr.{pops, after}
use Rattle.expr.proofs.ExprLaws.{fits-is}
use Rattle.expr.specs.Expr.{Ok}
use Rattle.expr.specs.Eval.{Env, env_of, update, step, eval, top, value}
use Rattle.expr.proofs.EvalLaws.{update_same, update_other, step-length, eval-words}
use Rattle.file.specs.Outcome.{Kind, Assume, Assert, Bound, Outcome, Failed, unsafe}
use Rattle.file.specs.File.{Head}
use Rattle.trace.specs.Trace.{Stmt, Assign, Test, Seen, at_first, see}
use Rattle.trace.specs.WellFormed.{ExprOk, StmtsOk}
use Rattle.trace.specs.Judge.{judge}
use Rattle.trace.specs.Asserts.{is_assert, has_assert, asserted}
use Rattle.trace.specs.Past.{values_past, OfWords}
use Rattle.trace.specs.PastLaws.{env_words, assign-words, past_words, past-keeps, Below, below-first, below-assign}
use Rattle.trace.specs.PastLaws.{AgreeIn, value_in_lem, past_equation}
use Rattle.script.specs.Smt.{Relation, bvule, bvslt, bv_unary, bv_binary, related, Term, slot, word_in, word_of}
use Rattle.script.specs.Smt.{Formula, both, holds, solves, satisfies}
use Rattle.script.specs.SmtLaws.{sub_is, shl_is, lshr_is, ule_is, slt_is}
use Rattle.script.specs.Script.{unary_term, binary_term, token_term, term_from, expr_term, numbers_from, equations_of, tested, violation}
use Rattle.script.specs.Script.{script_of, inputs_of}

-- ---- an operator's term means the operator

cond-test : (b : Bool) → cond b 1 0 ≡ test b
cond-test true = refl
cond-test false = refl

module _ (σ ξ : Env) where
  unary_means : (o : Unary) (a : Term) → word_in σ ξ (unary_term o a) ≡ unary 32 o (word_in σ ξ a)
  unfolding word_in bv_unary related unary
  unary_means Not a = refl
  unary_means Neg a = refl
  unary_means Zero a = cond-test (eqb (word_in σ ξ a) 0)

  binary_means : (o : Binary) (a b : Term) → Word (word_in σ ξ a) → Word (word_in σ ξ b)
      → word_in σ ξ (binary_term o a b) ≡ binary 32 o (word_in σ ξ a) (word_in σ ξ b)
  unfolding word_in bv_binary related binary
  binary_means Add a b h k = refl
  binary_means Sub a b h k = sub_is 32 (word_in σ ξ a) (word_in σ ξ b)
  binary_means Mul a b h k = refl
  binary_means Udiv a b h k = refl
  binary_means Urem a b h k = refl
  binary_means And a b h k = refl
  binary_means Or a b h k = refl
  binary_means Xor a b h k = refl
  binary_means Shl a b h k = shl_is 32 (word_in σ ξ a) (word_in σ ξ b)
  binary_means Lshr a b h k = lshr_is 32 (word_in σ ξ a) (word_in σ ξ b) h
  binary_means Equal a b h k = cond-test (eqb (word_in σ ξ a) (word_in σ ξ b))
  binary_means Ult a b h k = cond-test (ltb (word_in σ ξ a) (word_in σ ξ b))
  binary_means Ule a b h k =
      cond-test (related 32 bvule (word_in σ ξ a) (word_in σ ξ b)) ∙ ap test (ule_is 32 (word_in σ ξ a) (word_in σ ξ b))
  binary_means Slt a b h k = cond-test (related 32 bvslt (word_in σ ξ a) (word_in σ ξ b)) ∙ slt_is (word_in σ ξ a) (word_in σ ξ b) h k

-- ---- an expression's term means its value

-- the variables hold the stack, x0 its deepest word
abbrev Held : (ξ : Env) → List ℕ → Type 0
Held ξ [] = Unit {0}
Held ξ (a ∷ st) = (ξ (length st) ≡ a) × Held ξ st

held-above : (ξ : Env) (k v : ℕ) (st : List ℕ) → length st ≤ k → Held ξ st → Held (update ξ k v) st
held-above ξ k v [] l h = tt
held-above ξ k v (a ∷ st) l h = (update_other ξ k v (length st) (λ q. omega arith) ∙ h.0, held-above ξ k v st (omega arith) h.1)

held_push : (ξ : Env) (k v w : ℕ) (st : List ℕ) → k ≡ length st → v ≡ w → Held ξ st → Held (update ξ k v) (w ∷ st)
held_push ξ k v w st q e h = (ap (update ξ k v) (sym q) ∙ update_same ξ k v ∙ e, held-above ξ k v st (omega arith) h)

held-step : (σ ξ : Env) (t : Token) (st : List ℕ) (k : ℕ) → k + pops t ≡ length st → Holds Trace t → All Word st → Held ξ st
    → Held (update ξ k (word_in σ ξ (token_term k t))) (step σ t st)
unfolding word_in related
held-step σ ξ (Const n) st k q c w h = held_push ξ k _ n st (omega arith) (mod-eq_of_lt c) h
held-step σ ξ (Symbol s) st k q c w h = held_push ξ k _ (σ s) st (omega arith) refl h
held-step σ ξ (Un o) [] k q c w h = absurd (omega arith)
held-step σ ξ (Un o) (a ∷ st) k q c w h =
    let l : k ≡ length st = omega arith in
    held_push ξ k _ (unary 32 o a) st l (unary_means σ ξ o (slot k) ∙ ap (unary 32 o) (ap ξ l ∙ h.0)) h.1
held-step σ ξ (Bin o) [] k q c w h = absurd (omega arith)
held-step σ ξ (Bin o) (b ∷ []) k q c w h = absurd (omega arith)
held-step σ ξ (Bin o) (b ∷ a ∷ st) k q c w h =
    let l : k ≡ length st = omega arith in
    let m : k + 1 ≡ suc (length st) = omega arith in
    let x : ξ k ≡ a = ap ξ l ∙ h.1.0 in
    let y : ξ (k + 1) ≡ b = ap ξ m ∙ h.0 in
    held_push ξ k _ (binary 32 o a b) st l
    (binary_means σ ξ o (slot k) (slot (k + 1)) (subst Word (sym x) w.1.0) (subst Word (sym y) w.0) ∙ ap₂ (binary 32 o) x y)
    h.1.1
held-step σ ξ Ite [] k q c w h = absurd (omega arith)
held-step σ ξ Ite (b ∷ []) k q c w h = absurd (omega arith)
held-step σ ξ Ite (b ∷ a ∷ []) k q c w h = absurd (omega arith)
held-step σ ξ Ite (b ∷ a ∷ z ∷ st) k q c w h =
    let l : k ≡ length st = omega arith in
    let m : k + 1 ≡ suc (length st) = omega arith in
    let n : k + 2 ≡ suc (suc (length st)) = omega arith in
    let x : ξ k ≡ z = ap ξ l ∙ h.1.1.0 in
    let y : ξ (k + 1) ≡ a = ap ξ m ∙ h.1.0 in
    let v : ξ (k + 2) ≡ b = ap ξ n ∙ h.0 in
    held_push ξ k _ (choice z a b) st l (rw (x, y, v)) h.1.1.1

module _ (may : ℕ → Bool) (σ : Env) (ws : OfWords σ) where
  term_means : (d : ℕ) (e : List Token) (st : List ℕ) (ξ : Env) → length st ≡ d → Ok may 17 d 1 e → All (Holds Trace) e → All Word st
      → Held ξ st → word_in σ ξ (term_from d e) ≡ top (eval σ e st)
  unfolding word_in
  term_means d [] [] ξ q o c w h = absurd (omega arith)
  term_means d [] (a ∷ []) ξ q o c w h = h.0
  term_means d [] (b ∷ a ∷ st) ξ q o c w h = absurd (omega arith)
  term_means d (t ∷ e) st ξ q o c w h =
      let p : pops t ≤ length st = omega (arith, (fits-is may 17 d t o.0).enough) in
      term_means (after d t) e (step σ t st) _ (step-length σ t st p ∙ ap (λ n. after n t) q) o.1 c.1
      (eval-words Trace σ (t ∷ []) st (c.0, tt) (λ x r. ws x) w)
      (held-step σ ξ t st _ (omega arith) c.0 w h)

  pub expr_means : (e : List Token) → ExprOk may e → word_of σ (expr_term e) ≡ value σ e
  unfolding expr_term value
  expr_means e o = term_means 0 e [] (λ k. 0) refl o.0 o.1 tt tt

-- ---- the formula walks the tests as judging does

and_false : (a : Bool) → (a && false) ≡ false
and_false true = refl
and_false false = refl

both_false : (τ : Env) (r : Relation) (a b : Term) (f : Formula) → holds τ f ≡ false → holds τ (both r a b f) ≡ false
unfolding holds
both_false τ r a b f h = let c = related 32 r (word_of τ a) (word_of τ b) in ap (λ x. c && x) h ∙ and_false c

-- without an Assert the formula is false
no_assert_false : (τ : Env) (ts : List Stmt) → has_assert ts ≡ false → holds τ (violation ts) ≡ false
unfolding violation holds
no_assert_false τ [] h = refl
no_assert_false τ (Assign p x e ∷ ts) h = no_assert_false τ ts h
no_assert_false τ (Test Assume p e ∷ ts) h = both_false τ _ _ _ (violation ts) (no_assert_false τ ts h)
no_assert_false τ (Test Assert p e ∷ ts) h = absurd (let z : ◌≡◌ {A = ℕ} 0 1 = cc in omega arith)
no_assert_false τ (Test Bound p e ∷ ts) h = both_false τ _ _ _ (violation ts) (no_assert_false τ ts h)

tested-same : (τ : Env) (k : Kind) (e : List Token) (f g : Formula) → holds τ f ≡ holds τ g
    → holds τ (tested k e f) ≡ holds τ (tested k e g)
unfolding holds
tested-same τ Assume e f g h = rw h
tested-same τ Assert e f g h = rw h
tested-same τ Bound e f g h = rw h

-- so the tests behind the last Assert may be left out
pub claim-cut : (τ : Env) (ts : List Stmt) → holds τ (violation (asserted ts)) ≡ holds τ (violation ts)
unfolding violation holds
claim-cut τ [] = refl
claim-cut τ (Assign p x e ∷ ts) = go (has_assert ts) refl (claim-cut τ ts)
  where
    go : (b : Bool) → has_assert ts ≡ b → holds τ (violation (asserted ts)) ≡ holds τ (violation ts)
        → holds τ (violation (cond b (Assign p x e ∷ asserted ts) [])) ≡ holds τ (violation ts)
    go true h ih = ih
    go false h ih = sym (no_assert_false τ ts h)
claim-cut τ (Test k p e ∷ ts) = go (is_assert k || has_assert ts) refl (claim-cut τ ts)
  where
    go : (b : Bool) → (is_assert k || has_assert ts) ≡ b → holds τ (violation (asserted ts)) ≡ holds τ (violation ts)
        → holds τ (violation (cond b (Test k p e ∷ asserted ts) [])) ≡ holds τ (tested k e (violation ts))
    go true h ih = tested-same τ k e (violation (asserted ts)) (violation ts) ih
    go false h ih = sym (no_assert_false τ (Test k p e ∷ ts) h)

eqb_swap : (v : ℕ) → eqb 0 v ≡ eqb v 0
eqb_swap v = go (eqb v 0) refl
  where
    go : (b : Bool) → eqb v 0 ≡ b → eqb 0 v ≡ b
    go true e = eq-eqb 0 v (sym (eqb-true v 0 e))
    go false e = ne_eqb 0 v (λ q. eqb-false v 0 e (sym q))

-- a test that is false if b, before a rest that is judged to o
module _ (p : ℕ) (o : Outcome) where
  assert-unsafe : (b : Bool) → (b || unsafe o) ≡ unsafe (cond (not b) o (Failed Assert p))
  assert-unsafe true = refl
  assert-unsafe false = refl

  assume-unsafe : (b : Bool) → (not b && unsafe o) ≡ unsafe (cond (not b) o (Failed Assume p))
  assume-unsafe true = refl
  assume-unsafe false = refl

  bound-unsafe : (b : Bool) → (not b && unsafe o) ≡ unsafe (cond (not b) o (Failed Bound p))
  bound-unsafe true = refl
  bound-unsafe false = refl

module _ (seen : Seen) (e : List Token) (σ τ : Env) (o : ExprOk seen.readable e) (ws : OfWords τ) (a : AgreeIn seen σ τ) where
  -- the term has in a model the value that the expression has in judging
  judged : word_of τ (expr_term e) ≡ value σ e
  judged = expr_means seen.readable τ ws e o ∙ sym (value_in_lem seen σ τ e o a)

  agree_assign : (p x : ℕ) → τ x ≡ word_of τ (expr_term e) → AgreeIn (see seen (Assign p x e)) (update σ x (value σ e)) τ
  agree_assign p x q y r = go (eqb y x) refl r
    where
      go : (b : Bool) → eqb y x ≡ b → (b || seen.readable y) ≡ true → cond b (value σ e) (σ y) ≡ τ y
      go true z r = sym (ap τ (eqb-true y x z) ∙ q ∙ judged)
      go false z r = a y r

  is_zero : eqb 0 (word_of τ (expr_term e)) ≡ eqb (value σ e) 0
  is_zero = ap (eqb 0) judged ∙ eqb_swap (value σ e)

  test-judged : (k : Kind) (p : ℕ) (ts : List Stmt) → holds τ (violation ts) ≡ unsafe (judge ts σ)
      → holds τ (violation (Test k p e ∷ ts)) ≡ unsafe (judge (Test k p e ∷ ts) σ)
  unfolding violation holds judge related word_in
  test-judged Assume p ts ih = ap₂ ◌&&◌ (ap not is_zero) ih ∙ assume-unsafe p (judge ts σ) (eqb (value σ e) 0)
  test-judged Assert p ts ih = ap₂ ◌||◌ is_zero ih ∙ assert-unsafe p (judge ts σ) (eqb (value σ e) 0)
  test-judged Bound p ts ih = ap₂ ◌&&◌ (ap not is_zero) ih ∙ bound-unsafe p (judge ts σ) (eqb (value σ e) 0)

model_judged : (S : ℕ) (seen : Seen) (ts : List Stmt) (σ τ : Env) → StmtsOk S seen ts → OfWords τ → AgreeIn seen σ τ
    → solves τ (equations_of ts) ≡ true → holds τ (violation ts) ≡ unsafe (judge ts σ)
unfolding violation holds judge
model_judged S seen [] σ τ o ws a q = refl
model_judged S seen (Assign p x e ∷ ts) σ τ o ws a q =
    let b = and_both (eqb (τ x) (word_of τ (expr_term e))) (solves τ (equations_of ts)) q in
    model_judged S (see seen (Assign p x e)) ts (update σ x (value σ e)) τ o.1 ws
    (agree_assign seen e σ τ o.0.3 ws a p x (eqb-true (τ x) (word_of τ (expr_term e)) b.0)) b.1
model_judged S seen (Test k p e ∷ ts) σ τ o ws a q =
    test-judged seen e σ τ o.0.2 ws a k p ts (model_judged S seen ts σ τ o.1 ws a q)

-- ---- the values past any stop solve the equations

past-solves : (S : ℕ) (seen : Seen) (ts : List Stmt) (σ : Env) → StmtsOk S seen ts → OfWords σ → Below seen
    → solves (values_past ts σ) (equations_of ts) ≡ true
unfolding values_past
past-solves S seen [] σ o ws b = refl
past-solves S seen (Assign p x e ∷ ts) σ o ws b =
    let τ = values_past (Assign p x e ∷ ts) σ in
    let means = expr_means seen.readable τ (past_words S seen (Assign p x e ∷ ts) σ o ws) e o.0.3 in
    both_and (eqb (τ x) (word_of τ (expr_term e))) (solves τ (equations_of ts))
    (eq-eqb (τ x) (word_of τ (expr_term e)) (past_equation S seen p x e ts σ o b ∙ sym means))
    (past-solves S (see seen (Assign p x e)) ts (update σ x (value σ e)) o.1 (assign-words seen.readable σ x e o.0.3 ws)
    (below-assign seen p x e o.0.1 b))
past-solves S seen (Test k p e ∷ ts) σ o ws b = past-solves S seen ts σ o.1 ws b

-- ---- what the script says

pub inputs-length : (τ : Env) (x n : ℕ) → length (map τ (numbers_from x n)) ≡ n
inputs-length τ x zero = refl
inputs-length τ x (suc n) = ap suc (inputs-length τ (suc x) n)

pub inputs-words : (τ : Env) (x n : ℕ) → OfWords τ → All Word (map τ (numbers_from x n))
inputs-words τ x zero ws = tt
inputs-words τ x (suc n) ws = (ws x, inputs-words τ (suc x) n ws)

inputs_are : (τ : Env) (x n i : ℕ) → i < n → env_of (map τ (numbers_from x n)) i ≡ τ (x + i)
inputs_are τ x zero i l = absurd (omega arith)
inputs_are τ x (suc n) zero l = ap τ (sym (add-zero x))
inputs_are τ x (suc n) (suc i) l =
    inputs_are τ (suc x) n i (omega arith) ∙ ap τ (let q : suc x + i ≡ x + suc i = omega arith in q)

module _ (head : Head) (ts : List Stmt) (o : StmtsOk head.inputs (at_first head) ts) where
  abbrev S : ℕ
  S = head.inputs

  -- in any environment of words that solves the equations
  claim-judged : (σ τ : Env) → OfWords τ → ((x : ℕ) → x < S → σ x ≡ τ x) → solves τ (equations_of ts) ≡ true
      → holds τ (violation (asserted ts)) ≡ unsafe (judge ts σ)
  claim-judged σ τ ws a q = claim-cut τ ts ∙ model_judged S (at_first head) ts σ τ o ws (λ y r. a y (ltb-true y S r)) q

  -- for any valuation the script holds, with the assigned symbols at their trace values, exactly if the trace is unsafe
  pub export_violated : (v : List ℕ) → All Word v → satisfies (values_past ts (env_of v)) (script_of S ts) ≡ unsafe (judge ts (env_of v))
  unfolding satisfies script_of
  export_violated v h =
      let ws = env_words v h in
      let τ = values_past ts (env_of v) in
      let s : solves τ (equations_of ts) ≡ true = past-solves S (at_first head) ts (env_of v) o ws (below-first head) in
      ap (λ b. b && holds τ (violation (asserted ts))) s
      ∙ claim-judged (env_of v) τ (past_words S (at_first head) ts (env_of v) o ws)
      (λ x l. sym (past-keeps S (at_first head) ts (env_of v) o x l)) s

  -- for the inputs of any model the trace is unsafe: what a solver finds can be judged again
  pub model_violates : (τ : Env) → OfWords τ → satisfies τ (script_of S ts) ≡ true → unsafe (judge ts (env_of (inputs_of S τ))) ≡ true
  unfolding satisfies script_of
  model_violates τ ws q =
      let b = and_both (solves τ (equations_of ts)) (holds τ (violation (asserted ts))) q in
      sym (claim-judged (env_of (inputs_of S τ)) τ ws (λ x l. inputs_are τ 0 S x l ∙ ap τ (zero-add x)) b.0) ∙ b.1

  -- a solver answers `sat` exactly if the trace is unsafe for some valuation
  pub sat_iff : ((τ : Env) × OfWords τ × (satisfies τ (script_of S ts) ≡ true))
      ↔ ((v : List ℕ) × (length v ≡ S) × All Word v × (unsafe (judge ts (env_of v)) ≡ true))
  sat_iff = (
    λ m. (inputs_of S m.0, inputs-length m.0 0 S, inputs-words m.0 0 S m.1, model_violates m.0 m.1 m.2),
    λ m. (
      values_past ts (env_of m.0),
      past_words S (at_first head) ts (env_of m.0) o (env_words m.0 m.2),
      export_violated m.0 m.2 ∙ m.3,
    ),
  )
