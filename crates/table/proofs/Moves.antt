-- The code's moves are the steps of the instruction that the record holds.
use Prim.Native.Nat.{ℕ, suc, ◌+◌, ◌*◌, ◌≤◌, ◌<◌}
use native.Mathlib.Omega.{arith}
use native.Mathlib.Nat.{mul-le-mul_left, mul-le-mul_right}
use native.Mathlib.Numerals.{add-one}
use mathlib.Core.Path.{◌≡◌, sym, ap, ap₂, ◌∙◌}
use mathlib.Core.List.{List}
use lib.ListN.{length, drop, set}
use borrow.Author.Tests.{eq-eqb, ne_eqb}
use Rattle.expr.specs.declared.File.TheVariants.{Table}
use Rattle.expr.specs.declared.token.Token.{Token}
use Rattle.expr.specs.Expr.{below, Whole, parse}
use Rattle.expr.specs.Eval.{Env, env_of, value}
use Rattle.expr.proofs.EvalLaws.{update-set, value-whole}
use Rattle.expr.specs.Shown.{value_of}
use Rattle.file.specs.Outcome.{Kind, Failed}
use Rattle.file.specs.declared.Failure.{Failure}
use Rattle.file.specs.File.{Body, record_of}
use Rattle.table.specs.declared.read.Action.TheVariants as A
use Rattle.table.specs.Table.{Instr, Assign, Test, IfThenGoto, instr}
use Rattle.table.specs.Run.{place_in, Next, Halt, Go, jump, step}
use Rattle.table.specs.Shown.{expr_part, action_at, action_of, expr_of, value_in, step_body}
use Rattle.table.proofs.Held.{Held}

-- a place is small
pub place_lt : (n K i r : ℕ) → n ≤ 1024 → i < n → r ≤ K → K ≤ 255 → r * (n + 1) + i < 262400
place_lt n K i r a b c d =
    let x : n + 1 ≤ 1025 = omega arith in
    let y : r ≤ 255 = omega arith in
    omega (arith, mul-le-mul_left r x, mul-le-mul_right 1025 y)

pub place_is : (n i r : ℕ) → r * (n + 1) + i ≡ place_in n r i
place_is n i r = ap (λ m. r * m + i) (add-one n)

module _ {T n : ℕ} {s : List ℕ} {at : ℕ} (h : Held T n s at) where
  pub expr-whole : {e : List ℕ} → e ≡ expr_part s at → parse Table (below T) e ≡ Whole (expr_of h.instruction)
  expr-whole q = ap (parse Table (below T)) q ∙ h.parsed

  pub expr-value : (ρ : Env) {e : List ℕ} → e ≡ expr_part s at
      → value_of ρ (parse Table (below T) e) ≡ value_in (record_of (instr T n) (drop at s)) ρ
  expr-value ρ q = ap (value_of ρ) (expr-whole q) ∙ value-whole ρ (expr_of h.instruction) ∙ sym (ap (λ b. value_in b ρ) h.is)

-- the instruction, by what it does
pub assign-is : (x : Instr) (y : ℕ) → action_of x ≡ A.Assign y → x ≡ Assign y (expr_of x)
assign-is (Assign s e) y q = ap {B = Instr} (λ s. Assign s e) (let z : s ≡ y = cc in z)
assign-is (Test k e) y q = absurd (let z : ◌≡◌ {A = ℕ} 0 1 = cc in omega arith)
assign-is (IfThenGoto t e) y q = absurd (let z : ◌≡◌ {A = ℕ} 0 1 = cc in omega arith)

pub test-is : (x : Instr) (k : Kind) → action_of x ≡ A.Test k → x ≡ Test k (expr_of x)
test-is (Assign s e) k q = absurd (let z : ◌≡◌ {A = ℕ} 0 1 = cc in omega arith)
test-is (Test j e) k q = ap {B = Instr} (λ j. Test j e) (let z : j ≡ k = cc in z)
test-is (IfThenGoto t e) k q = absurd (let z : ◌≡◌ {A = ℕ} 0 1 = cc in omega arith)

pub goto-is : (x : Instr) (t : ℕ) → action_of x ≡ A.Goto t → x ≡ IfThenGoto t (expr_of x)
goto-is (Assign s e) t q = absurd (let z : ◌≡◌ {A = ℕ} 0 1 = cc in omega arith)
goto-is (Test k e) t q = absurd (let z : ◌≡◌ {A = ℕ} 0 1 = cc in omega arith)
goto-is (IfThenGoto s e) t q = ap {B = Instr} (λ s. IfThenGoto s e) (let z : s ≡ t = cc in z)

module _ {n : ℕ} {s : List ℕ} {at : ℕ} (vals : List ℕ) (h : Held (length vals) n s at) (K i r w : ℕ)
    (v : w ≡ value_in (record_of (instr (length vals) n) (drop at s)) (env_of vals)) where
  abbrev ρ : Env
  ρ = env_of vals

  abbrev rec : Body Instr
  rec = record_of (instr (length vals) n) (drop at s)

  abbrev e : List Token
  e = expr_of h.instruction

  is-value : w ≡ value ρ e
  is-value = v ∙ ap (λ b. value_in b ρ) h.is

  -- the step of the record, by the form of its instruction
  by : (x : Instr) → h.instruction ≡ x → (q : Next) → q ≡ step n K i r x ρ → q ≡ step_body n K i r rec ρ
  by x f q k = k ∙ ap (λ x. step n K i r x ρ) (sym f) ∙ ap (λ b. step_body n K i r b ρ) (sym h.is)

  onward : Go (i + 1) r ρ ≡ Go (suc i) r ρ
  onward = ap {B = Next} (λ j. Go j r ρ) (add-one i)

  pub assign_moves : (y : ℕ) → action_at s at ≡ A.Assign y → Go (i + 1) r (env_of (set vals y w)) ≡ step_body n K i r rec ρ
  assign_moves y k =
      by (Assign y e) (assign-is h.instruction y (sym h.acts ∙ k)) (Go (i + 1) r (env_of (set vals y w)))
      (ap₂ {C = Next} (λ j τ. Go j r τ) (add-one i)
      (ap (λ w. env_of (set vals y w)) is-value ∙ update-set vals y (value ρ e) (h.symbols y (sym h.acts ∙ k))))

  -- a condition that is false, and one that is true
  pub goto_stays : (t : ℕ) → action_at s at ≡ A.Goto t → w ≡ 0 → Go (i + 1) r ρ ≡ step_body n K i r rec ρ
  goto_stays t k z =
      by (IfThenGoto t e) (goto-is h.instruction t (sym h.acts ∙ k)) (Go (i + 1) r ρ) (rw (eq-eqb (value ρ e) 0 (sym is-value ∙ z)) onward)

  pub goto_jumps : (t : ℕ) → action_at s at ≡ A.Goto t → (w ≡ 0 → ⊥) → (q : Next) → q ≡ jump n K i r t ρ → q ≡ step_body n K i r rec ρ
  goto_jumps t k z q f =
      by (IfThenGoto t e) (goto-is h.instruction t (sym h.acts ∙ k)) q (rw (ne_eqb (value ρ e) 0 (λ y. z (is-value ∙ y))) f)

  pub test-fails : (k : Kind) → action_at s at ≡ A.Test k → w ≡ 0 → (f : Failure) → f ≡ record { kind = k; place = place_in n r i }
      → Halt (Failed f.kind f.place) ≡ step_body n K i r rec ρ
  test-fails k a z f q =
      by (Test k e) (test-is h.instruction k (sym h.acts ∙ a)) (Halt (Failed f.kind f.place))
      (rw (eq-eqb (value ρ e) 0 (sym is-value ∙ z)) (ap {B = Next} (λ f. Halt (Failed f.kind f.place)) q))

  pub test-holds : (k : Kind) → action_at s at ≡ A.Test k → (w ≡ 0 → ⊥) → Go (i + 1) r ρ ≡ step_body n K i r rec ρ
  test-holds k a z =
      by (Test k e) (test-is h.instruction k (sym h.acts ∙ a)) (Go (i + 1) r ρ)
      (rw (ne_eqb (value ρ e) 0 (λ y. z (is-value ∙ y))) onward)
