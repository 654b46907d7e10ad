-- The loop over instructions: the run from the instruction that is reached, with fuel for all that is left, is the whole run.
use Prim.Native.Nat.{ℕ, suc, ◌+◌, ◌-◌, ◌*◌, ◌≤◌, ◌<◌}
use native.Mathlib.Omega.{arith}
use native.Mathlib.Nat.{suc-mul}
use native.Mathlib.Numerals.{add-one}
use mathlib.Core.Path.{◌≡◌, refl, sym, ap, ap₂, ◌∙◌, subst}
use mathlib.Core.Bool.{true}
use mathlib.Core.List.{List, [], ◌∷◌}
use lib.ListN.{length, drop, get_or, length-drop, drop_of_length-le}
use Rattle.expr.specs.Lists.{All, all_drop}
use Rattle.expr.specs.Number.{Byte}
use Rattle.expr.specs.Eval.{env_of}
use Rattle.file.specs.Outcome.{Ended, Failed}
use Rattle.file.specs.File.{Head, header_size, header_count, head_of, after_header, Good, Read, record_of, Input, Accepted, Refused}
use Rattle.file.specs.Shown.{offsets_in, is_accepted, listed}
use Rattle.file.proofs.FileLaws.{IsFile, file-is}
use Rattle.std.specs.Prelude.{Result, Ok, Err}
use Rattle.file.specs.declared.Failure.{Failure}
use Rattle.table.specs.declared.steps.Spot.{Spot}
use Rattle.table.specs.Table.{Instr, instr, instrs, is_table, read_table}
use Rattle.table.specs.TableLaws.{InstrOk, IsTable, table-ok, instr-at, record-more}
use Rattle.table.specs.Run.{Next, Halt, Go, step, step_at, Ran, onward, run_from}
use Rattle.table.specs.RunLaws.{left, Leads, fails, goes, step-leads, fuel-enough}
use Rattle.table.specs.Shown.{next_of, step_body}

-- what an accepted table has for the run
pub record Loaded (s : List ℕ) (head : Head) (is : List Instr) : Type 0 where
  pub accepted : read_table s ≡ Accepted head is
  pub table : IsTable s head.inputs is

pub loaded : (s : List ℕ) → All Byte s → is_accepted (read_table s) ≡ true → Loaded s (head_of s) (listed (read_table s))
unfolding read_table
loaded s o h = go (read_table s) refl h
  where
    go : (x : Input Instr) → read_table s ≡ x → is_accepted x ≡ true → Loaded s (head_of s) (listed (read_table s))
    go (Accepted head is) e h =
        let i = (file-is is_table 1024 instrs s head is e).is in
        subst (λ ys. Loaded s (head_of s) ys) (sym (ap listed e))
        (subst (λ h. Loaded s h is) (sym i) (record { accepted = e; table = table-ok s head is o e }))
    go (Refused r f) e h = absurd (let z : ◌≡◌ {A = ℕ} 0 1 = cc in omega arith)

-- the run of n instructions so far, with the values that it has left
pub record Running (is : List Instr) (K n : ℕ) (v₀ vals : List ℕ) (i r : ℕ) : Type 0 where
  pub inside : i ≤ length is
  pub few : r ≤ K
  pub long : length vals ≡ length v₀
  pub same : run_from is K (left (length is) K i r) i r (env_of vals) ≡ run_from is K ((K + 1) * (n + 1)) 0 0 (env_of v₀)

-- a turn that goes on
pub record On (is : List Instr) (K n : ℕ) (v₀ vals : List ℕ) (i r j t : ℕ) : Type 0 where
  pub running : Running is K n v₀ vals j t
  pub less : left (length is) K j t < left (length is) K i r

module _ (s off : List ℕ) (n K T : ℕ) (head : Head) (is : List Instr) (l : Loaded s head is) (q : length is ≡ n) (sy : head.inputs ≤ T)
    (st : (i : ℕ) → i < n → get_or off i 0 ≡ get_or (offsets_in n s) i 0) (v₀ : List ℕ) where
  abbrev S : ℕ
  S = head.inputs

  abbrev N : ℕ
  N = length is

  abbrev whole : Ran
  whole = run_from is K ((K + 1) * (n + 1)) 0 0 (env_of v₀)

  all-ok : All (InstrOk S (length is)) is
  all-ok = l.table.ok

  pub start : Running is K n v₀ v₀ 0 0
  start = record {
    inside = omega arith;
    few = omega arith;
    long = refl;
    same = fuel-enough S is K all-ok (left N K 0 0) ((K + 1) * (n + 1)) 0 0 (env_of v₀) (omega arith) (omega arith) (omega arith)
        (let a : (K - 0) * suc N ≡ K * suc n = ap₂ (λ x y. x * suc y) (let z : K - 0 ≡ K = omega arith in z) q in
        let b : (K + 1) * (n + 1) ≡ K * suc n + suc n = ap₂ (λ x y. x * y) (add-one K) (add-one n) ∙ suc-mul K (suc n) in
        omega arith);
  }

  pub record Here (i : ℕ) : Type 0 where
    pub instruction : Instr
    pub after : List Instr
    pub is-here : drop i is ≡ instruction ∷ after
    pub good : record_of (instr T n) (drop (get_or off i 0) s) ≡ Good instruction

  pub here : (i : ℕ) → i < n → Here i
  unfolding read_table
  here i h = go (drop i is) refl
    where
      f : IsFile is_table 1024 instrs s head is
      f = file-is is_table 1024 instrs s head is l.accepted

      count : header_count s ≡ n
      count = sym l.table.count ∙ q

      go : (ys : List Instr) → drop i is ≡ ys → Here i
      go [] e = absurd (omega (arith, ap length e, length-drop i is))
      go (x ∷ xs) e = record {
        instruction = x;
        after = xs;
        is-here = e;
        good =
            ap (λ o. record_of (instr T n) (drop o s)) (st i h)
            ∙ record-more S T n _ x sy (instr-at s S n n (header_size s) is
            (subst (λ m. instrs head m (after_header s) ≡ Read is) count f.read)
            i x xs e);
      }

  module _ {vals : List ℕ} {i r : ℕ} (w : Running is K n v₀ vals i r) where
    abbrev fuel : ℕ
    fuel = left N K i r - 1

    one-step : (ys : List Instr) → drop i is ≡ ys → whole ≡ onward (step_at N K i r ys (env_of vals)) r (run_from is K (left N K i r - 1))
    one-step ys e =
        sym w.same
        ∙ ap (λ f. run_from is K f i r (env_of vals)) (let z : left N K i r ≡ suc (left N K i r - 1) = omega (arith, w.inside) in z)
        ∙ ap (λ ys. onward (step_at N K i r ys (env_of vals)) r (run_from is K (left N K i r - 1))) e

    pub end : n ≤ i → record { outcome = Ended; back_jumps = r } ≡ whole
    end h = sym (one-step [] (drop_of_length-le is {i = i} (omega arith)))

    module _ (h : i < n) (m : Result Spot Failure) (vals' : List ℕ) (moved : next_of m (env_of vals')
        ≡ step_body n K i r (record_of (instr T n) (drop (get_or off i 0) s)) (env_of vals)) where
      abbrev x : Instr
      x = (here i h).instruction

      stepped : next_of m (env_of vals') ≡ step N K i r x (env_of vals)
      stepped =
          moved
          ∙ ap (λ k. step_body k K i r (record_of (instr T n) (drop (get_or off i 0) s)) (env_of vals)) (sym q)
          ∙ ap (λ b. step_body N K i r b (env_of vals)) (here i h).good

      next : (y : Next) → step N K i r x (env_of vals) ≡ y → whole ≡ onward y r (run_from is K fuel)
      next y e = one-step (x ∷ (here i h).after) (here i h).is-here ∙ ap (λ y. onward y r (run_from is K fuel)) e

      leads : Leads N K i r (step N K i r x (env_of vals))
      leads =
          step-leads N K i r (omega arith) w.few S x (env_of vals)
          (subst (All (InstrOk S (length is))) (here i h).is-here (all_drop (InstrOk S (length is)) i is all-ok)).0

      pub halts : (f : Failure) → m ≡ Err f → record { outcome = Failed f.kind f.place; back_jumps = r } ≡ whole
      halts f e = sym (next (Halt (Failed f.kind f.place)) (sym stepped ∙ ap (λ m. next_of m (env_of vals')) e))

      pub goes_on : length vals' ≡ length vals → (to : Spot) → m ≡ Ok to → On is K n v₀ vals' i r to.i to.r
      goes_on kept to e = go (step N K i r x (env_of vals)) refl leads
        where
          there : step N K i r x (env_of vals) ≡ Go to.i to.r (env_of vals')
          there = sym stepped ∙ ap (λ m. next_of m (env_of vals')) e

          go : (y : Next) → step N K i r x (env_of vals) ≡ y → Leads N K i r y → On is K n v₀ vals' i r to.i to.r
          go y g (fails c) = absurd (let z = sym g ∙ there in let y : ◌≡◌ {A = ℕ} 0 1 = cc in omega arith)
          go y g (goes j t ρ a b c) =
              let z = sym g ∙ there in
              let u : j ≡ to.i = cc in
              let v : t ≡ to.r = cc in
              let ends : ρ ≡ env_of vals' = cc in
              subst (λ j. On is K n v₀ vals' i r j to.r) u (subst (On is K n v₀ vals' i r j) v (record {
                running = record {
                  inside = b;
                  few = a;
                  long = kept ∙ w.long;
                  same =
                      ap (run_from is K (left N K j t) j t) (sym ends)
                      ∙ fuel-enough S is K all-ok (left N K j t) fuel j t ρ b a (omega arith) (omega arith)
                      ∙ sym (next y g);
                };
                less = c;
              }))
