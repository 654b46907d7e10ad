-- The values of an accepted trace, past any stop: words stay words, what is not assigned keeps its value, and each assigned symbol ends
-- with the value that its expression has at the end, since the symbols that it reads are not assigned again.
use Rattle.std.specs.Prelude.{ℕ, zero, suc, ◌≤◌, ◌<◌, ◌≡◌, refl, Bool, true, false, cond, List, [], ◌∷◌, eqb}
use Rattle.std.proofs.Common.{arith, sym, ◌∙◌, eqb-true, ltb-true}
use Rattle.expr.specs.declared.File.TheVariants.{Trace}
use Rattle.expr.specs.Lists.{All, or_cases}
use Rattle.expr.specs.Word.{Word}
use Rattle.expr.specs.declared.token.Token.{Token}
use Rattle.expr.specs.Eval.{Env, env_of, update, value}
use Rattle.expr.proofs.EvalLaws.{update_same, update_other, reads_known, value_agree, value_word}
use Rattle.file.specs.File.{Head}
use Rattle.trace.specs.Trace.{Stmt, Assign, Test, Seen, at_first, see}
use Rattle.trace.specs.WellFormed.{ExprOk, StmtsOk}
use Rattle.trace.specs.Past.{values_past, OfWords}

-- ---- words

pub env_words : (v : List ℕ) → All Word v → OfWords (env_of v)
env_words [] h x = omega arith
env_words (a ∷ v) h zero = h.0
env_words (a ∷ v) h (suc x) = env_words v h.1 x

update-words : (σ : Env) (s v : ℕ) → OfWords σ → Word v → OfWords (update σ s v)
update-words σ s v h k x = go (eqb x s)
  where
    go : (b : Bool) → Word (cond b v (σ x))
    go true = k
    go false = h x

-- an Assign leaves words
pub assign-words : (may : ℕ → Bool) (σ : Env) (x : ℕ) (e : List Token) → ExprOk may e → OfWords σ → OfWords (update σ x (value σ e))
assign-words may σ x e o h = update-words σ x (value σ e) h (value_word Trace σ e o.1 (λ y r. h y))

pub past_words : (S : ℕ) (seen : Seen) (ts : List Stmt) (σ : Env) → StmtsOk S seen ts → OfWords σ → OfWords (values_past ts σ)
unfolding values_past
past_words S seen [] σ o h = h
past_words S seen (Assign p x e ∷ ts) σ o h =
    past_words S (see seen (Assign p x e)) ts (update σ x (value σ e)) o.1 (assign-words seen.readable σ x e o.0.3 h)
past_words S seen (Test k p e ∷ ts) σ o h = past_words S seen ts σ o.1 h

-- ---- what is not assigned again

-- symbols below the least that may be assigned keep their values
pub past-keeps : (S : ℕ) (seen : Seen) (ts : List Stmt) (σ : Env) → StmtsOk S seen ts → (y : ℕ) → y < seen.least
    → values_past ts σ y ≡ σ y
unfolding values_past
past-keeps S seen [] σ o y l = refl
past-keeps S seen (Assign p x e ∷ ts) σ o y l =
    let m : seen.least ≤ x = o.0.1 in
    past-keeps S (see seen (Assign p x e)) ts (update σ x (value σ e)) o.1 y (omega arith)
    ∙ update_other σ x (value σ e) y (λ q. omega arith)
past-keeps S seen (Test k p e ∷ ts) σ o y l = past-keeps S seen ts σ o.1 y l

-- what may be read is below the least that may be assigned
abbrev pub Below : Seen → Type 0
Below seen = (y : ℕ) → seen.readable y ≡ true → y < seen.least

pub below-first : (head : Head) → Below (at_first head)
below-first head y r = ltb-true y head.inputs r

pub below-assign : (seen : Seen) (p x : ℕ) (e : List Token) → seen.least ≤ x → Below seen → Below (see seen (Assign p x e))
below-assign seen p x e l b y r =
    or_cases (eqb y x) (seen.readable y) (λ q. let z = eqb-true y x q in omega arith) (λ q. let z = b y q in omega arith) r

-- ---- an assigned symbol's value

-- two environments that agree on what may be read
abbrev pub AgreeIn : Seen → (σ τ : Env) → Type 0
AgreeIn seen σ τ = (y : ℕ) → seen.readable y ≡ true → σ y ≡ τ y

pub value_in_lem : (seen : Seen) (σ τ : Env) (e : List Token) → ExprOk seen.readable e → AgreeIn seen σ τ → value σ e ≡ value τ e
value_in_lem seen σ τ e o h = value_agree σ τ e (λ y r. h y (reads_known seen.readable 17 0 1 e y o.0 r))

-- at the end it is its expression's
pub past_equation : (S : ℕ) (seen : Seen) (p x : ℕ) (e : List Token) (ts : List Stmt) (σ : Env) → StmtsOk S seen (Assign p x e ∷ ts)
    → Below seen → values_past (Assign p x e ∷ ts) σ x ≡ value (values_past (Assign p x e ∷ ts) σ) e
unfolding values_past
past_equation S seen p x e ts σ o b =
    past-keeps S (see seen (Assign p x e)) ts (update σ x (value σ e)) o.1 x (omega arith)
    ∙ update_same σ x (value σ e)
    ∙ value_in_lem seen σ (values_past (Assign p x e ∷ ts) σ) e o.0.3 (λ y r. sym (past-keeps S seen (Assign p x e ∷ ts) σ o y (b y r)))
