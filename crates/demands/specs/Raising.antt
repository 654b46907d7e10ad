-- Request 2026-13, "May we raise the bound without fear?": the bytes b of any table, under a bound K and a higher one, L. It is stated over
-- the answers that the public calls are proved to give, for valuations of words and of bytes. `RaisingProof` proves it.
use Rattle.std.specs.Prelude.{ℕ, ◌≡◌, List}
use Rattle.slice.specs.Answer.{slice_answer}
use Rattle.demands.specs.Valuation.{Handed, ran_with, judged_with}
use Rattle.demands.specs.Demand3.{RunUnsafeAt, UnsafeAt}

-- running, whether or not a trace can be written
pub record RunsRaised (b : List ℕ) (K L : ℕ) : Type 0 where
  -- "a violation at the lower must be found at the higher too, at the same place"
  pub violation : (h : Handed) (v : List ℕ) (p : ℕ) → RunUnsafeAt p (ran_with h b K v) → RunUnsafeAt p (ran_with h b L v)
  -- "a run not cut at the lower must give the very same verdict at the higher": verdict, place and back jumps
  pub not_cut : (h : Handed) (v : List ℕ) → ((ran_with h b K v).verdict ≡ 3 → ⊥) → ran_with h b L v ≡ ran_with h b K v

-- judging: t and u are the traces that are written under K and under L
pub record TracesRaised (t u : List ℕ) : Type 0 where
  -- "a violation at the lower must be found at the higher too, at the same place"
  pub violation : (h : Handed) (v : List ℕ) (p : ℕ) → UnsafeAt p (judged_with h t v) → UnsafeAt p (judged_with h u v)
  -- in the slices as well, in whatever room they are written
  pub slice-violation : (room room' : ℕ) → (slice_answer t room).reply ≡ 0 → (slice_answer u room').reply ≡ 0
      → (h : Handed) (v : List ℕ) (p : ℕ) → UnsafeAt p (judged_with h (slice_answer t room).bytes v)
      → UnsafeAt p (judged_with h (slice_answer u room').bytes v)
  -- "a run not cut at the lower must give the very same verdict at the higher": verdict and place
  pub not_cut : (h : Handed) (v : List ℕ) → ((judged_with h t v).verdict ≡ 3 → ⊥) → judged_with h u v ≡ judged_with h t v

-- beyond the request: with these stamps the rule fails under no bound at all, since under K it neither fails nor is cut. So if no valuation
-- is unsafe and none is cut under K, none is unsafe under any bound
pub record Settled (b : List ℕ) (K : ℕ) : Type 0 where
  pub never : (h : Handed) (v : List ℕ) → ((ran_with h b K v).verdict ≡ 1 → ⊥) → ((ran_with h b K v).verdict ≡ 3 → ⊥)
      → (L : ℕ) → (ran_with h b L v).verdict ≡ 1 → ⊥
