-- What the code does is the step of the statement that the record holds.
use Prim.Native.Nat.{ℕ, ◌+◌}
use native.Mathlib.Omega.{arith}
use mathlib.Core.Path.{◌≡◌, refl, sym, ap, ap₂, ◌∙◌}
use mathlib.Core.List.{List}
use lib.ListN.{length, drop, set}
use borrow.Author.Tests.{eq-eqb, ne_eqb}
use Rattle.expr.specs.declared.File.TheVariants.{Trace}
use Rattle.expr.specs.Number.{number_of}
use Rattle.expr.specs.Expr.{below, Whole, parse}
use Rattle.expr.specs.Eval.{Env, env_of, value}
use Rattle.expr.proofs.EvalLaws.{update-set, value-whole}
use Rattle.expr.specs.Shown.{value_of}
use Rattle.expr.specs.declared.token.Token.{Token}
use Rattle.file.specs.Outcome.{Kind, Failed}
use Rattle.trace.specs.declared.read.Action.TheVariants as A
use Rattle.trace.specs.Trace.{Stmt, Assign, Test}
use Rattle.trace.specs.Shown.{symbol_room, loose, held, expr_part, action_at, expr_of, value_in, Next, Halt, On, step, step_body}
use Rattle.trace.proofs.Held.{Held, acts-assign, acts-test}

module _ {s : List ℕ} {at : ℕ} (h : Held symbol_room loose s at) where
  -- with the code's own number of symbols
  pub expr-whole : (T : ℕ) → T ≡ symbol_room → {e : List ℕ} → e ≡ expr_part s at → parse Trace (below T) e ≡ Whole (expr_of h.statement)
  expr-whole T t q = ap₂ (λ T e. parse Trace (below T) e) t q ∙ h.parsed

  pub expr-value : (ρ : Env) (T : ℕ) → T ≡ symbol_room → {e : List ℕ} → e ≡ expr_part s at
      → value_of ρ (parse Trace (below T) e) ≡ value_in (held (drop at s)) ρ
  expr-value ρ T t q = ap (value_of ρ) (expr-whole T t q) ∙ value-whole ρ (expr_of h.statement) ∙ sym (ap (λ b. value_in b ρ) h.is)

module _ {s : List ℕ} {at : ℕ} (h : Held symbol_room loose s at) (cells : List ℕ) (w : ℕ)
    (v : w ≡ value_in (held (drop at s)) (env_of cells)) where
  abbrev ρ : Env
  ρ = env_of cells

  abbrev e : List Token
  e = expr_of h.statement

  abbrev place : ℕ
  place = number_of 2 (drop (at + 3) s)

  is-value : w ≡ value ρ e
  is-value = v ∙ ap (λ b. value_in b ρ) h.is

  -- the step of the record, by the form of its statement
  by : (x : Stmt) → h.statement ≡ x → (q : Next) → q ≡ step x ρ → q ≡ step_body (held (drop at s)) ρ
  by x f q k = k ∙ ap (λ x. step x ρ) (sym f) ∙ ap (λ b. step_body b ρ) (sym h.is)

  pub assign_moves : length cells ≡ symbol_room → (y : ℕ) → action_at s at ≡ A.Assign y
      → On (env_of (set cells y w)) ≡ step_body (held (drop at s)) ρ
  assign_moves long y k =
      let a = acts-assign h y k in
      by (Assign place y e) a.0 (On (env_of (set cells y w)))
      (ap {B = Next} On (ap (λ w. env_of (set cells y w)) is-value ∙ update-set cells y (value ρ e) (omega (arith, a.1))))

  pub test-fails : (k : Kind) → action_at s at ≡ A.Test k → w ≡ 0 → (p : ℕ) → p ≡ place
      → Halt (Failed k p) ≡ step_body (held (drop at s)) ρ
  test-fails k a z p q =
      by (Test k place e) (acts-test h k a) (Halt (Failed k p))
      (rw (eq-eqb (value ρ e) 0 (sym is-value ∙ z)) (ap {B = Next} (λ p. Halt (Failed k p)) q))

  pub test-holds : (k : Kind) → action_at s at ≡ A.Test k → (w ≡ 0 → ⊥) → On ρ ≡ step_body (held (drop at s)) ρ
  test-holds k a z = by (Test k place e) (acts-test h k a) (On ρ) (rw (ne_eqb (value ρ e) 0 (λ y. z (is-value ∙ y))) refl)
