-- The back jumps of a run, counted once more: not on the way, but over the list of the instructions that the run comes to. Every run, be it
-- ended, failed, stopped or cut, answers that count; and of a table that is read it is at most K for all its loops together.
use Prim.Native.Nat.{ℕ, zero, suc, ◌+◌, ◌*◌, ◌≤◌}
use Rattle.std.proofs.Common.{arith, subst}
use Rattle.std.specs.Prelude.{◌≡◌, refl, Bool, true, false, cond, List, [], ◌∷◌, length, drop, leb, ltb}
use Rattle.std.proofs.lemmas.Bool.{lt-leb}
use Rattle.expr.specs.Lists.{All}
use Rattle.expr.specs.Word.{truthy, test}
use Rattle.expr.specs.Eval.{Env, env_of, update, value}
use Rattle.table.specs.Table.{Instr, Assign, Test, IfThenGoto}
use Rattle.table.specs.TableLaws.{InstrOk}
use Rattle.table.specs.Run.{Next, Halt, Go, jump, step_at, onward, run_from, run}
use Rattle.table.specs.RunLaws.{run-placed}

-- ---- the instructions that a run comes to, in their order

abbrev pub path_on : Next → ((i r : ℕ) → Env → List ℕ) → List ℕ
path_on (Halt o) rest = []
path_on (Go i r ρ) rest = rest i r ρ

-- from instruction i on; n is the last where the run comes past the last instruction
abbrev pub path_from : (is : List Instr) (K fuel i r : ℕ) → Env → List ℕ
path_from is K zero i r ρ = i ∷ []
path_from is K (suc fuel) i r ρ = i ∷ path_on (step_at (length is) K i r (drop i is) ρ) (path_from is K fuel)

abbrev pub path : List Instr → (K : ℕ) → (words : List ℕ) → List ℕ
path is K words = path_from is K (suc K * suc (length is)) 0 0 (env_of words)

-- of the steps from each to the next, those to an instruction at or before the one that they leave
abbrev pub back_steps : List ℕ → ℕ
back_steps [] = 0
back_steps (i ∷ []) = 0
back_steps (i ∷ j ∷ p) = test (leb j i) + back_steps (j ∷ p)

-- ---- a step counts as it goes

abbrev Counts : (i r : ℕ) → Next → Type 0
Counts i r (Halt o) = Unit {0}
Counts i r (Go j q ρ) = q ≡ r + test (leb j i)

module _ (n K i r : ℕ) where
  cond_counts : (b : Bool) (x y : Next) → Counts i r x → Counts i r y → Counts i r (cond b x y)
  cond_counts true x y p q = p
  cond_counts false x y p q = q

  onwards : (ρ : Env) → Counts i r (Go (suc i) r ρ)
  onwards ρ = rw (lt-leb (suc i) i (omega arith)) (omega arith)

  -- by the test that decides
  told_counts : (b : Bool) (x y : Next) → (b ≡ true → Counts i r x) → (b ≡ false → Counts i r y) → Counts i r (cond b x y)
  told_counts true x y p q = p refl
  told_counts false x y p q = q refl

  back : (t : ℕ) (ρ : Env) → leb t i ≡ true → Counts i r (Go t (suc r) ρ)
  back t ρ e = rw e (omega arith)

  forward : (t : ℕ) (ρ : Env) → leb t i ≡ false → Counts i r (Go t r ρ)
  forward t ρ e = rw e (omega arith)

  jump_counts : (t : ℕ) (ρ : Env) → Counts i r (jump n K i r t ρ)
  jump_counts t ρ = told_counts (leb t i) _ _ (λ e. cond_counts (ltb r K) _ _ (back t ρ e) tt) (forward t ρ)

  step_counts : (xs : List Instr) (ρ : Env) → Counts i r (step_at n K i r xs ρ)
  step_counts [] ρ = tt
  step_counts (Assign s e ∷ xs) ρ = onwards (update ρ s (value ρ e))
  step_counts (Test k e ∷ xs) ρ = cond_counts (truthy (value ρ e)) _ _ (onwards ρ) tt
  step_counts (IfThenGoto t e ∷ xs) ρ = cond_counts (truthy (value ρ e)) _ _ (jump_counts t ρ) (onwards ρ)

-- ---- and so does a run

module _ (is : List Instr) (K : ℕ) where
  first_step : (f i j q : ℕ) (τ : Env) → back_steps (i ∷ path_from is K f j q τ) ≡ test (leb j i) + back_steps (path_from is K f j q τ)
  first_step zero i j q τ = refl
  first_step (suc f) i j q τ = refl

  pub run-from_counts : (f i r : ℕ) (ρ : Env) → (run_from is K f i r ρ).back_jumps ≡ r + back_steps (path_from is K f i r ρ)
  run-from_counts zero i r ρ = omega arith
  run-from_counts (suc f) i r ρ =
      let xs = drop i is in
      go (step_at (length is) K i r xs ρ) (step_counts (length is) K i r xs ρ) (run-from_counts f)
    where
      go : (x : Next) → Counts i r x → ((j q : ℕ) (τ : Env) → (run_from is K f j q τ).back_jumps ≡ q + back_steps (path_from is K f j q τ))
          → (onward x r (run_from is K f)).back_jumps ≡ r + back_steps (i ∷ path_on x (path_from is K f))
      go (Halt o) c rest = omega arith
      go (Go j q τ) c rest = omega (arith, rest j q τ, first_step f i j q τ)

  -- the answer's number of back jumps is the number of steps back, for every run
  pub run_counts_back-jumps : (words : List ℕ) → (run is K words).back_jumps ≡ back_steps (path is K words)
  unfolding run
  run_counts_back-jumps words = omega (arith, run-from_counts (suc K * suc (length is)) 0 0 (env_of words))

  -- at most K, for all loops together
  pub few-steps-back : (S : ℕ) → All (InstrOk S (length is)) is → (words : List ℕ) → back_steps (path is K words) ≤ K
  few-steps-back S ok words = subst (λ m. m ≤ K) (run_counts_back-jumps words) (run-placed S is K ok words).few
