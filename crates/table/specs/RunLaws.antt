-- The laws of running: the fuel never runs out, and more of it changes nothing; where an unsafe run fails; words stay words.
use Prim.Native.Nat.{ℕ, zero, suc, ◌+◌, ◌-◌, ◌*◌, ◌≤◌, ◌<◌}
use Rattle.std.proofs.Common.{arith, suc-mul, ap, ◌∙◌, subst, length-drop, leb-false, ltb-true}
use Rattle.std.specs.Prelude.{◌≡◌, refl, Bool, true, false, cond, List, [], ◌∷◌, length, drop, eqb, leb, ltb}
use Rattle.expr.specs.Lists.{All, all_drop}
use Rattle.expr.specs.Word.{Word, truthy}
use Rattle.expr.specs.declared.File.TheVariants.{Table}
use Rattle.expr.specs.Eval.{Env, env_of, update, value}
use Rattle.expr.proofs.EvalLaws.{value_word}
use Rattle.file.specs.Outcome.{Kind, Bound, Failed, Lost}
use Rattle.table.specs.Table.{Instr, Assign, Test, IfThenGoto}
use Rattle.table.specs.TableLaws.{InstrOk}
use Rattle.table.specs.Run.{place_in, Next, Halt, Go, jump, step, step_at, Ran, onward, run_from, run}

-- ---- what a step leads to

-- the instructions that a run can still come to, in this copy and in those after it
abbrev pub left : (n K i r : ℕ) → ℕ
left n K i r = (K - r) * suc n + (suc n - i)

-- a step ends the run at its own place, or leaves fewer instructions to come to
pub data Leads (n K i r : ℕ) : Next → Type 0 where
  fails : (k : Kind) → Leads n K i r (Halt (Failed k (place_in n r i)))
  goes : (j q : ℕ) (ρ : Env) → q ≤ K → j ≤ n → left n K j q < left n K i r → Leads n K i r (Go j q ρ)

module _ (n K i r : ℕ) (h : i < n) (k : r ≤ K) where
  cond-leads : (b : Bool) (x y : Next) → Leads n K i r x → Leads n K i r y → Leads n K i r (cond b x y)
  cond-leads true x y p q = p
  cond-leads false x y p q = q

  onwards : (ρ : Env) → Leads n K i r (Go (suc i) r ρ)
  onwards ρ = goes (suc i) r ρ k h (omega arith)

  back : (t : ℕ) (ρ : Env) → t ≤ n → (b : Bool) → ltb r K ≡ b
      → Leads n K i r (cond b (Go t (suc r) ρ) (Halt (Failed Bound (place_in n r i))))
  back t ρ l true e =
      let m : r < K = ltb-true r K e in
      let c : (K - r) * suc n ≡ (K - suc r) * suc n + suc n = ap (λ x. x * suc n) (let z : K - r ≡ suc (K - suc r) = omega arith in z)
      ∙ suc-mul (K - suc r) (suc n) in
      goes t (suc r) ρ m l (omega arith)
  back t ρ l false e = fails Bound

  jump-leads : (t : ℕ) (ρ : Env) → t ≤ n → Leads n K i r (jump n K i r t ρ)
  jump-leads t ρ l = go (leb t i) refl
    where
      go : (b : Bool) → leb t i ≡ b → Leads n K i r (cond b (cond (ltb r K) (Go t (suc r) ρ) (Halt (Failed Bound (place_in n r i))))
          (Go t r ρ))
      go true e = back t ρ l (ltb r K) refl
      go false e = goes t r ρ k l (omega (arith, leb-false t i e))

  pub step-leads : (S : ℕ) (x : Instr) (ρ : Env) → InstrOk S n x → Leads n K i r (step n K i r x ρ)
  step-leads S (Assign s e) ρ o = onwards (update ρ s (value ρ e))
  step-leads S (Test k e) ρ o = cond-leads (truthy (value ρ e)) _ _ (onwards ρ) (fails k)
  step-leads S (IfThenGoto t e) ρ o = cond-leads (truthy (value ρ e)) _ _ (jump-leads t ρ o.0) (onwards ρ)

-- ---- the fuel

-- the instruction at i, if there is one
drop_cases {ℓ} : (is : List Instr) (i : ℕ) (C : List Instr → Type ℓ) → C []
    → ((x : Instr) (xs : List Instr) → drop i is ≡ x ∷ xs → i < length is → C (x ∷ xs)) → C (drop i is)
drop_cases is i C end here = go (drop i is) refl
  where
    go : (ys : List Instr) → drop i is ≡ ys → C ys
    go [] e = end
    go (x ∷ xs) e = here x xs e (omega (arith, ap length e, length-drop i is))

all-at : (P : Instr → Type 0) (is : List Instr) (i : ℕ) (x : Instr) (xs : List Instr) → drop i is ≡ x ∷ xs → All P is → P x
all-at P is i x xs e o = (subst (All P) e (all_drop P i is o)).0

module _ (S : ℕ) (is : List Instr) (K : ℕ) (ok : All (InstrOk S (length is)) is) where
  abbrev n : ℕ
  n = length is

  -- with fuel for all that is left, more changes nothing
  pub fuel-enough : (f g i r : ℕ) (ρ : Env) → i ≤ length is → r ≤ K → left (length is) K i r ≤ f → left (length is) K i r ≤ g
      → run_from is K f i r ρ ≡ run_from is K g i r ρ
  fuel-enough zero g i r ρ h k a b = absurd (omega arith)
  fuel-enough (suc f) zero i r ρ h k a b = absurd (omega arith)
  fuel-enough (suc f) (suc g) i r ρ h k a b =
      drop_cases is i (λ ys. onward (step_at n K i r ys ρ) r (run_from is K f) ≡ onward (step_at n K i r ys ρ) r (run_from is K g)) refl
      (λ x xs e l. same (step n K i r x ρ) (step-leads n K i r l k S x ρ (all-at (InstrOk S n) is i x xs e ok)) (fuel-enough f g))
    where
      same : (x : Next) → Leads n K i r x
          → ((j q : ℕ) (τ : Env) → j ≤ n → q ≤ K → left n K j q ≤ f → left n K j q ≤ g → run_from is K f j q τ ≡ run_from is K g j q τ)
          → onward x r (run_from is K f) ≡ onward x r (run_from is K g)
      same x (fails c) rest = refl
      same x (goes j q τ a' b' c) rest = rest j q τ b' a' (omega arith) (omega arith)

  -- at most K back jumps; no run is lost; a test fails at an instruction of the copy that the back jumps have come to
  pub record Placed (q : Ran) : Type 0 where
    pub few : q.back_jumps ≤ K
    pub found : q.outcome ≡ Lost → ⊥
    pub place : (k : Kind) (p : ℕ) → q.outcome ≡ Failed k p → (i : ℕ) × (i < length is) × (p ≡ place_in (length is) q.back_jumps i)

  pub run-from-placed : (f i r : ℕ) (ρ : Env) → i ≤ length is → r ≤ K → left (length is) K i r ≤ f → Placed (run_from is K f i r ρ)
  run-from-placed zero i r ρ h k a = absurd (omega arith)
  run-from-placed (suc f) i r ρ h k a =
      drop_cases is i (λ ys. Placed (onward (step_at n K i r ys ρ) r (run_from is K f)))
      (record {
        few = k;
        found = λ e. (let z : ◌≡◌ {A = ℕ} 0 1 = cc in omega arith);
        place = λ c p e. absurd
            (let z : ◌≡◌ {A = ℕ} 0 1 = cc in omega arith);
      })
      (λ x xs e l. here l (step n K i r x ρ) (step-leads n K i r l k S x ρ (all-at (InstrOk S n) is i x xs e ok)) (run-from-placed f))
    where
      here : i < n → (x : Next) → Leads n K i r x → ((j q : ℕ) (τ : Env) → j ≤ n → q ≤ K → left n K j q ≤ f
          → Placed (run_from is K f j q τ))
          → Placed (onward x r (run_from is K f))
      here l x (fails c) rest = record {
        few = k;
        found = λ e. (let z : ◌≡◌ {A = ℕ} 0 1 = cc in omega arith);
        place = λ d p e. (i, l, (cc));
      }
      here l x (goes j q τ a' b' c) rest = rest j q τ b' a' (omega arith)

  whole : left (length is) K 0 0 ≡ suc K * suc (length is)
  whole =
      (let z : (K - 0) * suc n ≡ K * suc n = ap (λ x. x * suc n) (let y : K - 0 ≡ K = omega arith in y) in omega (arith, suc-mul K (suc n)))

  pub run-placed : (words : List ℕ) → Placed (run is K words)
  unfolding run
  run-placed words = run-from-placed (suc K * suc n) 0 0 (env_of words) (omega arith) (omega arith) (omega (arith, whole))

  pub run-never_lost : (words : List ℕ) → (run is K words).outcome ≡ Lost → ⊥
  run-never_lost words = (run-placed words).found

  -- any fuel that is enough gives the run
  pub run-fuel : (f : ℕ) (words : List ℕ) → suc K * suc (length is) ≤ f → run_from is K f 0 0 (env_of words) ≡ run is K words
  unfolding run
  run-fuel f words h =
      fuel-enough f (suc K * suc n) 0 0 (env_of words) (omega arith) (omega arith) (omega (arith, whole)) (omega (arith, whole))

-- ---- words stay words

abbrev pub Words : Env → Type 0
Words ρ = (x : ℕ) → Word (ρ x)

abbrev pub KeepsWords : Next → Type 0
KeepsWords (Halt o) = Unit {0}
KeepsWords (Go i r ρ) = Words ρ

cond-keeps : (b : Bool) (x y : Next) → KeepsWords x → KeepsWords y → KeepsWords (cond b x y)
cond-keeps true x y h k = h
cond-keeps false x y h k = k

update-words : (ρ : Env) (s v : ℕ) → Words ρ → Word v → Words (update ρ s v)
update-words ρ s v h k x = go (eqb x s)
  where
    go : (b : Bool) → Word (cond b v (ρ x))
    go true = k
    go false = h x

pub step_words : (S n K i r : ℕ) (x : Instr) (ρ : Env) → InstrOk S n x → Words ρ → KeepsWords (step n K i r x ρ)
step_words S n K i r (Assign s e) ρ o h = update-words ρ s (value ρ e) h (value_word Table ρ e o.1.1 (λ x q. h x))
step_words S n K i r (Test k e) ρ o h = cond-keeps (truthy (value ρ e)) _ _ h tt
step_words S n K i r (IfThenGoto t e) ρ o h =
    cond-keeps (truthy (value ρ e)) _ _ (cond-keeps (leb t i) _ _ (cond-keeps (ltb r K) _ _ h tt) h) h
