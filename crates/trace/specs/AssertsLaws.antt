-- A trace with no Assert is not unsafe; so what stands behind the last Assert decides nothing.
use Rattle.std.specs.Prelude.{ℕ, suc, ◌≤◌, ◌≡◌, refl, Bool, true, false, cond, ◌||◌, List, [], ◌∷◌, length, take}
use Rattle.std.proofs.Common.{arith, ap}
use Rattle.expr.specs.Word.{truthy}
use Rattle.expr.specs.Eval.{Env, update, value}
use Rattle.file.specs.Outcome.{Kind, Assume, Assert, Bound, Outcome, Ended, Failed, unsafe, place_of}
use Rattle.trace.specs.Trace.{Stmt, Assign, Test}
use Rattle.trace.specs.Judge.{judge}
use Rattle.trace.specs.Asserts.{is_assert, has_assert, asserted}

-- ---- a trace with no Assert is not unsafe

-- unsafe or not, and one place
abbrev pub Alike : (o u : Outcome) → Type 0
Alike o u = (unsafe o ≡ unsafe u) × (place_of o ≡ place_of u)

pub alike-cond : (b : Bool) (o u z : Outcome) → Alike o u → Alike (cond b o z) (cond b u z)
alike-cond true o u z h = h
alike-cond false o u z h = (refl, refl)

-- neither this test nor one behind it is an Assert
pub no_assert-here : (k : Kind) (b : Bool) (p : ℕ) → (is_assert k || b) ≡ false → Alike (Failed k p) Ended × (b ≡ false)
no_assert-here Assume b p h = ((refl, refl), h)
no_assert-here Assert b p h = absurd (let z : ◌≡◌ {A = ℕ} 0 1 = cc in omega arith)
no_assert-here Bound b p h = ((refl, refl), h)

pub no_assert_safe : (ts : List Stmt) (σ : Env) → has_assert ts ≡ false → Alike (judge ts σ) Ended
unfolding judge
no_assert_safe [] σ h = (refl, refl)
no_assert_safe (Assign p x e ∷ ts) σ h = no_assert_safe ts (update σ x (value σ e)) h
no_assert_safe (Test k p e ∷ ts) σ h = go (truthy (value σ e)) (no_assert-here k (has_assert ts) p h) (no_assert_safe ts σ)
  where
    go : (b : Bool) → Alike (Failed k p) Ended × (has_assert ts ≡ false) → (has_assert ts ≡ false → Alike (judge ts σ) Ended)
        → Alike (cond b (judge ts σ) (Failed k p)) Ended
    go true n ih = ih n.1
    go false n ih = n.0

-- ---- up to the last Assert

-- a trace is unsafe, and at the same place, exactly if what stands up to its last Assert is
pub asserted-alike : (ts : List Stmt) (σ : Env) → Alike (judge ts σ) (judge (asserted ts) σ)
unfolding judge
asserted-alike [] σ = (refl, refl)
asserted-alike (Assign p x e ∷ ts) σ = go (has_assert ts) refl (asserted-alike ts (update σ x (value σ e)))
  where
    go : (b : Bool) → has_assert ts ≡ b → Alike (judge ts (update σ x (value σ e))) (judge (asserted ts) (update σ x (value σ e)))
        → Alike (judge ts (update σ x (value σ e))) (judge (cond b (Assign p x e ∷ asserted ts) []) σ)
    go true q ih = ih
    go false q ih = no_assert_safe ts (update σ x (value σ e)) q
asserted-alike (Test k p e ∷ ts) σ = go (is_assert k || has_assert ts) refl (asserted-alike ts σ)
  where
    go : (b : Bool) → (is_assert k || has_assert ts) ≡ b → Alike (judge ts σ) (judge (asserted ts) σ)
        → Alike (judge (Test k p e ∷ ts) σ) (judge (cond b (Test k p e ∷ asserted ts) []) σ)
    go true q ih = alike-cond (truthy (value σ e)) (judge ts σ) (judge (asserted ts) σ) (Failed k p) ih
    go false q ih = no_assert_safe (Test k p e ∷ ts) σ q

-- it is the front of the trace
pub asserted_none : (ts : List Stmt) → has_assert ts ≡ false → asserted ts ≡ []
asserted_none [] h = refl
asserted_none (t ∷ ts) h = rw h

pub asserted-few : (ts : List Stmt) → length (asserted ts) ≤ length ts
asserted-few [] = omega arith
asserted-few (t ∷ ts) = go (has_assert (t ∷ ts)) (asserted-few ts)
  where
    go : (b : Bool) → length (asserted ts) ≤ length ts → length (cond b (t ∷ asserted ts) []) ≤ suc (length ts)
    go true l = omega arith
    go false l = omega arith

pub asserted-take : (ts : List Stmt) → take (length (asserted ts)) ts ≡ asserted ts
asserted-take [] = refl
asserted-take (t ∷ ts) = go (has_assert (t ∷ ts)) (asserted-take ts)
  where
    go : (b : Bool) → take (length (asserted ts)) ts ≡ asserted ts
        → take (length (cond b (t ∷ asserted ts) [])) (t ∷ ts) ≡ cond b (t ∷ asserted ts) []
    go true q = ap {B = List Stmt} (λ r. t ∷ r) q
    go false q = refl
