-- Document 01, "Running a table under bound K".
use Rattle.std.specs.Prelude.{ℕ, zero, suc, ◌+◌, ◌*◌, cond, List, [], ◌∷◌, length, drop, leb, ltb}
use Rattle.expr.specs.Word.{truthy}
use Rattle.expr.specs.Eval.{Env, env_of, update, value}
use Rattle.file.specs.Outcome.{Bound, Outcome, Ended, Failed, Lost}
use Rattle.table.specs.Table.{Instr, Assign, Test, IfThenGoto}

-- instruction i in copy r, the copy after r back jumps
abbrev pub place_in : (n r i : ℕ) → ℕ
place_in n r i = r * suc n + i

-- after an instruction the run ends, or goes on at instruction i with r back jumps taken
pub data Next : Type 0 where
  Halt : Outcome → Next
  Go : (i r : ℕ) → Env → Next

-- a jump from i to t: a back jump where t is at or before i; when K have been taken already, it ends the run
abbrev pub jump : (n K i r t : ℕ) → Env → Next
jump n K i r t ρ = cond (leb t i) (cond (ltb r K) (Go t (suc r) ρ) (Halt (Failed Bound (place_in n r i)))) (Go t r ρ)

abbrev pub step : (n K i r : ℕ) → Instr → Env → Next
step n K i r (Assign s e) ρ = Go (suc i) r (update ρ s (value ρ e))
step n K i r (Test k e) ρ = cond (truthy (value ρ e)) (Go (suc i) r ρ) (Halt (Failed k (place_in n r i)))
step n K i r (IfThenGoto t e) ρ = cond (truthy (value ρ e)) (jump n K i r t ρ) (Go (suc i) r ρ)

-- the instruction at the front of those that are left; past the last one the run has ended
abbrev pub step_at : (n K i r : ℕ) → List Instr → Env → Next
step_at n K i r [] ρ = Halt Ended
step_at n K i r (x ∷ xs) ρ = step n K i r x ρ

-- how a run ends, and the number of back jumps taken
pub record Ran : Type 0 where
  pub outcome : Outcome
  pub back_jumps : ℕ

abbrev pub onward : Next → (r : ℕ) → ((i r : ℕ) → Env → Ran) → Ran
onward (Halt o) r rest = record { outcome = o; back_jumps = r }
onward (Go i r' ρ) r rest = rest i r' ρ

-- at most `fuel` instructions, from instruction i with r back jumps taken
abbrev pub run_from : (is : List Instr) (K fuel i r : ℕ) → Env → Ran
run_from is K zero i r ρ = record { outcome = Lost; back_jumps = r }
run_from is K (suc fuel) i r ρ = onward (step_at (length is) K i r (drop i is) ρ) r (run_from is K fuel)

-- from instruction 0 with the words given; no run comes to more than (K + 1) × (n + 1) instructions
unfoldable pub run : List Instr → (K : ℕ) → (words : List ℕ) → Ran
run is K words = run_from is K (suc K * suc (length is)) 0 0 (env_of words)
