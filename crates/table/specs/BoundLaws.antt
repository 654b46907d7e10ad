-- Two bounds, K and the greater L: a run is the very same under both, or K cuts it where under L it takes more than K back jumps. So where
-- K back jumps are enough for all loops of a run together, a greater bound changes nothing (`enough-bound`); and a run that K does not cut
-- is the same under every greater bound (`run-raised`, request 2026-13).
--
-- Step for step the two runs are one, until a back jump is asked for where K have been taken already: K halts the run there, and under L a
-- run that takes it has more than K at its end.
use Prim.Native.Nat.{ℕ, zero, suc, ◌*◌, ◌≤◌, ◌<◌}
use native.Mathlib.Omega.{arith}
use Rattle.std.proofs.Common.{mul-le-mul_right, sym, ap, ltb-true, ltb-false}
use Rattle.std.specs.Prelude.{◌≡◌, refl, Bool, true, false, cond, List, [], ◌∷◌, length, drop, leb, ltb}
use Rattle.std.proofs.Math.Path.{subst}
use Rattle.expr.specs.Lists.{All}
use Rattle.expr.specs.Word.{truthy}
use Rattle.expr.specs.Eval.{Env, env_of, value}
use Rattle.file.specs.Outcome.{Bound, Failed, verdict}
use Rattle.table.specs.Table.{Instr, Assign, Test, IfThenGoto}
use Rattle.table.specs.TableLaws.{InstrOk}
use Rattle.table.specs.Run.{place_in, Next, Halt, Go, step_at, Ran, onward, run_from, run}
use Rattle.table.specs.RunLaws.{run-fuel}
use Rattle.table.specs.BackJumpLaws.{run-from_counts}

module _ (K L : ℕ) (h : K ≤ L) where
  -- under both bounds a step leads to the same; or K have been taken already, the lower bound halts, and the greater one jumps back
  data Alike (n i r : ℕ) (x y : Next) : Type 0 where
    same : y ≡ x → Alike n i r x y
    further : (t : ℕ) (ρ : Env) → x ≡ Go t (suc r) ρ → y ≡ Halt (Failed Bound (place_in n r i)) → K ≤ r → Alike n i r x y

  module _ (n i r : ℕ) where
    cond-alike : (b : Bool) (x y z w : Next) → Alike n i r x y → Alike n i r z w → Alike n i r (cond b x z) (cond b y w)
    cond-alike true x y z w p q = p
    cond-alike false x y z w p q = q

    abbrev cut_here : Next
    cut_here = Halt (Failed Bound (place_in n r i))

    back-alike : (t : ℕ) (ρ : Env) (b c : Bool) → ltb r L ≡ b → ltb r K ≡ c
        → Alike n i r (cond b (Go t (suc r) ρ) cut_here) (cond c (Go t (suc r) ρ) cut_here)
    back-alike t ρ true true e f = same refl
    back-alike t ρ true false e f = further t ρ refl refl (ltb-false r K f)
    back-alike t ρ false true e f = absurd (omega (arith, ltb-false r L e, ltb-true r K f))
    back-alike t ρ false false e f = same refl

    step-alike : (xs : List Instr) (ρ : Env) → Alike n i r (step_at n L i r xs ρ) (step_at n K i r xs ρ)
    step-alike [] ρ = same refl
    step-alike (Assign s e ∷ xs) ρ = same refl
    step-alike (Test k e ∷ xs) ρ = same refl
    step-alike (IfThenGoto t e ∷ xs) ρ =
        let back = back-alike t ρ (ltb r L) (ltb r K) refl refl in
        cond-alike (truthy (value ρ e)) _ _ _ _ (cond-alike (leb t i) _ _ _ _ back (same refl)) (same refl)

  module _ (is : List Instr) where
    -- one run, or cut by K where under L it takes more than K back jumps
    data Both (high low : Ran) : Type 0 where
      one : low ≡ high → Both high low
      parted : K < high.back_jumps → verdict low.outcome ≡ 3 → Both high low

    abbrev AllBoth : (f : ℕ) → Type 0
    AllBoth f = (i r : ℕ) (ρ : Env) → Both (run_from is L f i r ρ) (run_from is K f i r ρ)

    run-from-both : (f : ℕ) → AllBoth f
    run-from-both zero i r ρ = one refl
    run-from-both (suc f) i r ρ =
        let xs = drop i is in
        let n = length is in
        go (step_at n L i r xs ρ) (step_at n K i r xs ρ) (step-alike n i r xs ρ) (run-from-both f)
      where
        on : (x : Next) → AllBoth f → Both (onward x r (run_from is L f)) (onward x r (run_from is K f))
        on (Halt o) rest = one refl
        on (Go j q τ) rest = rest j q τ

        go : (x y : Next) → Alike (length is) i r x y → AllBoth f → Both (onward x r (run_from is L f)) (onward y r (run_from is K f))
        go x y (same e) rest = subst (λ z. Both (onward x r (run_from is L f)) (onward z r (run_from is K f))) (sym e) (on x rest)
        go x y (further t τ e c k) rest =
            let taken : K < (run_from is L f t (suc r) τ).back_jumps = omega (arith, run-from_counts is L f t (suc r) τ) in
            parted (subst (λ z. K < (onward z r (run_from is L f)).back_jumps) (sym e) taken)
            (ap (λ z. verdict (onward z r (run_from is K f)).outcome) c)

    module _ (S : ℕ) (ok : All (InstrOk S (length is)) is) (words : List ℕ) where
      run-both : Both (run is L words) (run is K words)
      unfolding run
      run-both =
          let f = suc L * suc (length is) in
          subst (λ low. Both (run is L words) low)
          (run-fuel S is K ok f words (mul-le-mul_right (suc (length is)) (let z : suc K ≤ suc L = omega arith in z)))
          (run-from-both f 0 0 (env_of words))

      -- where K back jumps are enough for all loops together, a greater bound changes nothing
      pub enough-bound : (run is L words).back_jumps ≤ K → run is K words ≡ run is L words
      enough-bound few = go run-both
        where
          go : Both (run is L words) (run is K words) → run is K words ≡ run is L words
          go (one e) = e
          go (parted more c) = absurd (omega arith)

      -- a run that K does not cut is the same under L: how it ends, its place and its back jumps
      pub run-raised : (verdict (run is K words).outcome ≡ 3 → ⊥) → run is L words ≡ run is K words
      run-raised whole = go run-both
        where
          go : Both (run is L words) (run is K words) → run is L words ≡ run is K words
          go (one e) = sym e
          go (parted more c) = absurd (whole c)
