-- The script of an accepted trace is well formed; and what a well-formed script says depends on its declared symbols alone, so an
-- environment that satisfies it is a solver's model.
use Rattle.std.specs.Prelude.{ℕ, zero, suc, ◌+◌, ◌-◌, ◌≤◌, ◌<◌, ◌≡◌, Bool, leb}
use Rattle.std.proofs.Common.{arith, ◌∙◌, eq-eqb, le-leb, ltb-true, List, [], ◌∷◌, ◌++◌}
use Rattle.std.proofs.Math.Path.{refl, ap, ap₂}
use Rattle.std.proofs.Math.Bool.{true, false, cond, ◌&&◌, ◌||◌}
use Rattle.std.proofs.Math.Dec.{eqb}
use Rattle.std.proofs.lemmas.Bool.{eqb-false}
use Rattle.expr.specs.Lists.{and_both, both_and, or_left, or_right, or_cases}
use Rattle.expr.specs.declared.word.Unary.{Unary}
use Rattle.expr.specs.declared.word.Unary.TheVariants.{Not, Neg, Zero}
use Rattle.expr.specs.declared.word.Binary.{Binary}
use Rattle.expr.specs.declared.word.Binary.TheVariants.{Add, Sub, Mul, Udiv, Urem, And, Or, Xor, Shl, Lshr, Equal, Ult, Ule, Slt}
use Rattle.expr.specs.declared.token.Token.{Token}
use Rattle.expr.specs.declared.token.Token.TheVariants.{Const, Symbol, Un, Bin, Ite}
use Rattle.expr.specs.Expr.{pops, after, reads_only}
use Rattle.expr.proofs.ExprLaws.{fits-is}
use Rattle.expr.specs.Expr.{Ok}
use Rattle.expr.specs.Eval.{Env, update}
use Rattle.file.specs.Outcome.{Kind, Assume, Assert, Bound}
use Rattle.file.specs.File.{Head}
use Rattle.trace.specs.Trace.{Stmt, Assign, Test, Seen, at_first, see}
use Rattle.trace.specs.WellFormed.{ExprOk, StmtsOk}
use Rattle.trace.specs.Asserts.{has_assert, asserted}
use Rattle.script.specs.Smt.{related, bv_unary, bv_binary, Term, hex, declared, slot, one, two, choose, bind, word_in, word_of}
use Rattle.script.specs.Smt.{Formula, never, either, both, holds, Equation, solves, Script, satisfies}
use Rattle.script.specs.Script.{unary_term, binary_term, token_term, term_from, expr_term, numbers_from, assigned, equations_of, tested}
use Rattle.script.specs.Script.{violation, script_of}
use Rattle.script.specs.Scope.{among, scoped, closed, closed_formula, closed_equations, rising, WellScoped}

-- ---- the declared symbols alone

module _ (D : ℕ → Bool) (σ τ : Env) (h : (x : ℕ) → D x ≡ true → σ x ≡ τ x) where
  word_agree : (B : ℕ → Bool) (t : Term) (ξ ζ : Env) → ((k : ℕ) → B k ≡ true → ξ k ≡ ζ k) → scoped D B t ≡ true
      → word_in σ ξ t ≡ word_in τ ζ t
  unfolding word_in
  word_agree B (hex n) ξ ζ g q = refl
  word_agree B (declared s) ξ ζ g q = h s q
  word_agree B (slot k) ξ ζ g q = g k q
  word_agree B (one o a) ξ ζ g q = ap (bv_unary 32 o) (word_agree B a ξ ζ g q)
  word_agree B (two o a b) ξ ζ g q =
      let p = and_both (scoped D B a) (scoped D B b) q in
      ap₂ (bv_binary 32 o) (word_agree B a ξ ζ g p.0) (word_agree B b ξ ζ g p.1)
  word_agree B (choose r a b t u) ξ ζ g q =
      let p = and_both (scoped D B a) (scoped D B b && (scoped D B t && scoped D B u)) q in
      let s = and_both (scoped D B b) (scoped D B t && scoped D B u) p.1 in
      let v = and_both (scoped D B t) (scoped D B u) s.1 in
      rw (word_agree B a ξ ζ g p.0, word_agree B b ξ ζ g s.0, word_agree B t ξ ζ g v.0, word_agree B u ξ ζ g v.1)
  word_agree B (bind k t body) ξ ζ g q =
      let p = and_both (scoped D B t) (scoped D (λ x. eqb x k || B x) body) q in
      word_agree (λ x. eqb x k || B x) body (update ξ k (word_in σ ξ t)) (update ζ k (word_in τ ζ t))
      (λ x r. go x (eqb x k) r (word_agree B t ξ ζ g p.0)) p.1
    where
      go : (x : ℕ) (b : Bool) → (b || B x) ≡ true → word_in σ ξ t ≡ word_in τ ζ t
          → cond b (word_in σ ξ t) (ξ x) ≡ cond b (word_in τ ζ t) (ζ x)
      go x true r e = e
      go x false r e = g x r

  closed_agree : (t : Term) → closed D t ≡ true → word_of σ t ≡ word_of τ t
  closed_agree t q = word_agree (λ k. false) t (λ k. 0) (λ k. 0) (λ k r. refl) q

  holds_agree : (f : Formula) → closed_formula D f ≡ true → holds σ f ≡ holds τ f
  unfolding holds
  holds_agree never q = refl
  holds_agree (either r a b f) q =
      let p = and_both (closed D a) (closed D b && closed_formula D f) q in
      let s = and_both (closed D b) (closed_formula D f) p.1 in
      ap₂ ◌||◌ (ap₂ (related 32 r) (closed_agree a p.0) (closed_agree b s.0)) (holds_agree f s.1)
  holds_agree (both r a b f) q =
      let p = and_both (closed D a) (closed D b && closed_formula D f) q in
      let s = and_both (closed D b) (closed_formula D f) p.1 in
      ap₂ ◌&&◌ (ap₂ (related 32 r) (closed_agree a p.0) (closed_agree b s.0)) (holds_agree f s.1)

  solves_agree : (qs : List Equation) → closed_equations D qs ≡ true → solves σ qs ≡ solves τ qs
  solves_agree [] q = refl
  solves_agree (e ∷ qs) q =
      let p = and_both (D e.symbol) (closed D e.term && closed_equations D qs) q in
      let s = and_both (closed D e.term) (closed_equations D qs) p.1 in
      ap₂ ◌&&◌ (ap₂ eqb (h e.symbol p.0) (closed_agree e.term s.0)) (solves_agree qs s.1)

pub satisfies_agree : (c : Script) → WellScoped c → (σ τ : Env) → ((x : ℕ) → among x c.symbols ≡ true → σ x ≡ τ x)
    → satisfies σ c ≡ satisfies τ c
unfolding satisfies
satisfies_agree c w σ τ h =
    ap₂ ◌&&◌ (solves_agree (λ x. among x c.symbols) σ τ h c.equations w.equations-closed)
    (holds_agree (λ x. among x c.symbols) σ τ h c.claim w.claim-closed)

-- ---- an accepted expression's term is closed

module _ (D : ℕ → Bool) where
  unary-scoped : (B : ℕ → Bool) (o : Unary) (a : Term) → scoped D B a ≡ true → scoped D B (unary_term o a) ≡ true
  unary-scoped B Not a h = h
  unary-scoped B Neg a h = h
  unary-scoped B Zero a h = rw h

  binary-scoped : (B : ℕ → Bool) (o : Binary) (a b : Term) → scoped D B a ≡ true → scoped D B b ≡ true
      → scoped D B (binary_term o a b) ≡ true
  binary-scoped B Add a b h k = rw (h, k)
  binary-scoped B Sub a b h k = rw (h, k)
  binary-scoped B Mul a b h k = rw (h, k)
  binary-scoped B Udiv a b h k = rw (h, k)
  binary-scoped B Urem a b h k = rw (h, k)
  binary-scoped B And a b h k = rw (h, k)
  binary-scoped B Or a b h k = rw (h, k)
  binary-scoped B Xor a b h k = rw (h, k)
  binary-scoped B Shl a b h k = rw (h, k)
  binary-scoped B Lshr a b h k = rw (h, k)
  binary-scoped B Equal a b h k = rw (h, k)
  binary-scoped B Ult a b h k = rw (h, k)
  binary-scoped B Ule a b h k = rw (h, k)
  binary-scoped B Slt a b h k = rw (h, k)

  module _ (may : ℕ → Bool) (known : (s : ℕ) → may s ≡ true → D s ≡ true) where
    token-scoped : (B : ℕ → Bool) (k d : ℕ) (t : Token) → k + pops t ≡ d → ((x : ℕ) → x < d → B x ≡ true) → reads_only may t ≡ true
        → scoped D B (token_term k t) ≡ true
    token-scoped B k d (Const n) q b r = refl
    token-scoped B k d (Symbol s) q b r = known s r
    token-scoped B k d (Un o) q b r = unary-scoped B o (slot k) (b k (omega arith))
    token-scoped B k d (Bin o) q b r = binary-scoped B o (slot k) (slot (k + 1)) (b k (omega arith)) (b (k + 1) (omega arith))
    token-scoped B k d Ite q b r =
        both_and (B k) (B (k + 1) && B (k + 2)) (b k (omega arith))
        (both_and (B (k + 1)) (B (k + 2)) (b (k + 1) (omega arith)) (b (k + 2) (omega arith)))

    term-scoped : (B : ℕ → Bool) (d : ℕ) (e : List Token) → Ok may 17 d 1 e → ((x : ℕ) → x < d → B x ≡ true)
        → scoped D B (term_from d e) ≡ true
    term-scoped B d [] o b = b 0 (omega arith)
    term-scoped B d (t ∷ e) o b =
        let f = fits-is may 17 d t o.0 in
        let k = d - pops t in
        let l : pops t ≤ d = f.enough in
        both_and (scoped D B (token_term k t)) _ (token-scoped B k d t (omega arith) b f.known)
        (term-scoped (λ x. eqb x k || B x) (after d t) e o.1 (λ x m. go x k m (omega arith) (eqb x k) refl))
      where
        go : (x k : ℕ) → x < suc k → k ≤ d → (t : Bool) → eqb x k ≡ t → (t || B x) ≡ true
        go x k m l true q = refl
        go x k m l false q = let n : x ≡ k → ⊥ = eqb-false x k q in b x (omega (arith, n))

    expr-closed : (e : List Token) → ExprOk may e → closed D (expr_term e) ≡ true
    unfolding expr_term
    expr-closed e o = term-scoped (λ k. false) 0 e o.0 (λ x l. absurd (omega arith))

-- ---- the script of an accepted trace

among-left : (x : ℕ) (xs ys : List ℕ) → among x xs ≡ true → among x (xs ++ ys) ≡ true
among-left x [] ys h = cc
among-left x (y ∷ xs) ys h =
    or_cases (eqb x y) (among x xs) (or_left (eqb x y) (among x (xs ++ ys))) (λ q. or_right (eqb x y) _ (among-left x xs ys q)) h

among-right : (x : ℕ) (xs ys : List ℕ) → among x ys ≡ true → among x (xs ++ ys) ≡ true
among-right x [] ys h = h
among-right x (y ∷ xs) ys h = or_right (eqb x y) _ (among-right x xs ys h)

among-numbers : (x k n : ℕ) → k ≤ x → x < k + n → among x (numbers_from k n) ≡ true
among-numbers x k zero l m = absurd (omega arith)
among-numbers x k (suc n) l m = go (eqb x k) refl (λ h. among-numbers x (suc k) n h (omega arith))
  where
    go : (t : Bool) → eqb x k ≡ t → (suc k ≤ x → among x (numbers_from (suc k) n) ≡ true)
        → (t || among x (numbers_from (suc k) n)) ≡ true
    go true q ih = refl
    go false q ih = let d : x ≡ k → ⊥ = eqb-false x k q in ih (omega (arith, d))

assigned_rise : (S : ℕ) (seen : Seen) (ts : List Stmt) (l : ℕ) → l ≤ seen.least → StmtsOk S seen ts → rising l (assigned ts) ≡ true
assigned_rise S seen [] l m o = refl
assigned_rise S seen (Assign p x e ∷ ts) l m o =
    both_and (leb l x) (rising (suc x) (assigned ts)) (le-leb l x (let k : seen.least ≤ x = o.0.1 in omega arith))
    (assigned_rise S (see seen (Assign p x e)) ts (suc x) (omega arith) o.1)
assigned_rise S seen (Test k p e ∷ ts) l m o = assigned_rise S seen ts l m o.1

numbers_rise : (k n : ℕ) (xs : List ℕ) → rising (k + n) xs ≡ true → rising k (numbers_from k n ++ xs) ≡ true
numbers_rise k zero xs h = ap (λ l. rising l xs) (let q : k ≡ k + 0 = omega arith in q) ∙ h
numbers_rise k (suc n) xs h =
    both_and (leb k k) (rising (suc k) (numbers_from (suc k) n ++ xs)) (le-leb k k (omega arith))
    (numbers_rise (suc k) n xs (ap (λ l. rising l xs) (let q : suc k + n ≡ k + suc n = omega arith in q) ∙ h))

-- D has what may be read, and what is assigned from here on
record Declares (D : ℕ → Bool) (seen : Seen) (ts : List Stmt) : Type 0 where
  before : (y : ℕ) → seen.readable y ≡ true → D y ≡ true
  later : (y : ℕ) → among y (assigned ts) ≡ true → D y ≡ true

module _ (S : ℕ) (D : ℕ → Bool) where
  declares_on : (seen : Seen) (p x : ℕ) (e : List Token) (ts : List Stmt) → Declares D seen (Assign p x e ∷ ts)
      → Declares D (see seen (Assign p x e)) ts
  declares_on seen p x e ts d = record {
    before = λ y r. or_cases (eqb y x) (seen.readable y) (λ q. d.later y (or_left (eqb y x) _ q)) (d.before y) r;
    later = λ y r. d.later y (or_right (eqb y x) _ r);
  }

  declared-here : (seen : Seen) (p x : ℕ) (e : List Token) (ts : List Stmt) → Declares D seen (Assign p x e ∷ ts) → D x ≡ true
  declared-here seen p x e ts d = d.later x (or_left (eqb x x) _ (eq-eqb x x refl))

  equations_are_closed : (seen : Seen) (ts : List Stmt) → StmtsOk S seen ts → Declares D seen ts
      → closed_equations D (equations_of ts) ≡ true
  equations_are_closed seen [] o d = refl
  equations_are_closed seen (Assign p x e ∷ ts) o d =
      both_and (D x) (closed D (expr_term e) && closed_equations D (equations_of ts)) (declared-here seen p x e ts d)
      (both_and (closed D (expr_term e)) (closed_equations D (equations_of ts)) (expr-closed D seen.readable d.before e o.0.3)
      (equations_are_closed (see seen (Assign p x e)) ts o.1 (declares_on seen p x e ts d)))
  equations_are_closed seen (Test k p e ∷ ts) o d =
      equations_are_closed seen ts o.1 (record { before = d.before; later = d.later })

  tested-closed : (k : Kind) (e : List Token) (f : Formula) → closed D (expr_term e) ≡ true → closed_formula D f ≡ true
      → closed_formula D (tested k e f) ≡ true
  tested-closed Assume e f h g = both_and (closed D (expr_term e)) (closed_formula D f) h g
  tested-closed Assert e f h g = both_and (closed D (expr_term e)) (closed_formula D f) h g
  tested-closed Bound e f h g = both_and (closed D (expr_term e)) (closed_formula D f) h g

  claim-is-closed : (seen : Seen) (ts : List Stmt) → StmtsOk S seen ts → Declares D seen ts
      → closed_formula D (violation (asserted ts)) ≡ true
  unfolding violation
  claim-is-closed seen [] o d = refl
  claim-is-closed seen (Assign p x e ∷ ts) o d =
      go (has_assert ts) (claim-is-closed (see seen (Assign p x e)) ts o.1 (declares_on seen p x e ts d))
    where
      go : (b : Bool) → closed_formula D (violation (asserted ts)) ≡ true
          → closed_formula D (violation (cond b (Assign p x e ∷ asserted ts) [])) ≡ true
      go true h = h
      go false h = refl
  claim-is-closed seen (Test k p e ∷ ts) o d =
      go (has_assert (Test k p e ∷ ts))
      (tested-closed k e (violation (asserted ts)) (expr-closed D seen.readable d.before e o.0.2)
      (claim-is-closed seen ts o.1 (record { before = d.before; later = d.later })))
    where
      go : (b : Bool) → closed_formula D (tested k e (violation (asserted ts))) ≡ true
          → closed_formula D (violation (cond b (Test k p e ∷ asserted ts) [])) ≡ true
      go true h = h
      go false h = refl

pub script_scoped : (head : Head) (ts : List Stmt) → StmtsOk head.inputs (at_first head) ts → WellScoped (script_of head.inputs ts)
unfolding script_of
script_scoped head ts o =
    let S = head.inputs in
    let D : ℕ → Bool = λ x. among x (numbers_from 0 S ++ assigned ts) in
    let d : Declares D (at_first head) ts = record {
      before =
          λ y r. among-left y (numbers_from 0 S) (assigned ts) (among-numbers y 0 S (omega arith) (omega (arith, ltb-true y S r)));
      later = λ y r. among-right y (numbers_from 0 S) (assigned ts) r;
    } in
    record {
      once = numbers_rise 0 S (assigned ts) (assigned_rise S (at_first head) ts (0 + S) (omega arith) o);
      equations-closed = equations_are_closed S D (at_first head) ts o d;
      claim-closed = claim-is-closed S D (at_first head) ts o d;
    }
