-- The laws of judging: only the symbols that are read matter, and an array of cells is as good as environments.
use Rattle.std.specs.Prelude.{ℕ, ◌<◌, ◌≡◌, refl, Bool, true, false, cond, List, [], ◌∷◌, length, set, eqb}
use Rattle.std.proofs.Common.{sym, ap, ap₂, ◌∙◌, subst, length-set}
use Rattle.expr.specs.Lists.{or_left, or_right}
use Rattle.expr.specs.Word.{truthy}
use Rattle.expr.specs.Eval.{Env, env_of, update, value, reads}
use Rattle.expr.proofs.EvalLaws.{value_agree, update-set}
use Rattle.file.specs.Outcome.{Outcome, Failed}
use Rattle.trace.specs.Trace.{Stmt, Assign, Test, reads_trace}
use Rattle.trace.specs.Judge.{judge}

pub judge_agree : (ts : List Stmt) (σ τ : Env) → ((x : ℕ) → reads_trace x ts ≡ true → σ x ≡ τ x) → judge ts σ ≡ judge ts τ
unfolding judge
judge_agree [] σ τ h = refl
judge_agree (Assign p y e ∷ ts) σ τ h = judge_agree ts (update σ y (value σ e)) (update τ y (value τ e)) (λ x r. go x r (eqb x y))
  where
    same : value σ e ≡ value τ e
    same = value_agree σ τ e (λ x r. h x (or_left (reads x e) (reads_trace x ts) r))

    go : (x : ℕ) → reads_trace x ts ≡ true → (b : Bool) → cond b (value σ e) (σ x) ≡ cond b (value τ e) (τ x)
    go x r true = same
    go x r false = h x (or_right (reads x e) (reads_trace x ts) r)
judge_agree (Test k p e ∷ ts) σ τ h =
    ap₂ (λ v o. cond (truthy v) o (Failed k p))
    (value_agree σ τ e (λ x r. h x (or_left (reads x e) (reads_trace x ts) r)))
    (judge_agree ts σ τ (λ x r. h x (or_right (reads x e) (reads_trace x ts) r)))

-- judging in an array: an assign stores the value in its symbol's cell
abbrev pub judge_cells : List Stmt → (cells : List ℕ) → Outcome
judge_cells [] cells = judge [] (env_of cells)
judge_cells (Assign p y e ∷ ts) cells = judge_cells ts (set cells y (value (env_of cells) e))
judge_cells (Test k p e ∷ ts) cells = cond (truthy (value (env_of cells) e)) (judge_cells ts cells) (Failed k p)

-- every assigned symbol has a cell
abbrev pub Celled : (count : ℕ) → List Stmt → Type 0
Celled n [] = Unit {0}
Celled n (Assign p y e ∷ ts) = (y < n) × Celled n ts
Celled n (Test k p e ∷ ts) = Celled n ts

pub judge-cells : (ts : List Stmt) (cells : List ℕ) → Celled (length cells) ts → judge_cells ts cells ≡ judge ts (env_of cells)
unfolding judge
judge-cells [] cells h = refl
judge-cells (Assign p y e ∷ ts) cells h =
    let v = value (env_of cells) e in
    judge-cells ts (set cells y v) (subst (λ n. Celled n ts) (sym (length-set cells y v)) h.1)
    ∙ ap (judge ts) (update-set cells y v h.0)
judge-cells (Test k p e ∷ ts) cells h = ap (λ o. cond (truthy (value (env_of cells) e)) o (Failed k p)) (judge-cells ts cells h)
