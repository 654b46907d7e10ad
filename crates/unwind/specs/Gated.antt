-- The gated run: straight over the list of places, none left out, with control as a number. A place acts only where it is active,
-- that is where control is at most its number. It stands between judging a trace and running a table, and serves only their agreement.
use Rattle.std.specs.Prelude.{ℕ, cond, List, [], ◌∷◌, leb}
use Rattle.expr.specs.Word.{truthy}
use Rattle.expr.specs.Eval.{Env, update, value}
use Rattle.file.specs.Outcome.{Kind, Outcome, Ended, Failed, Lost}
use Rattle.unwind.specs.Places.{Action, Set, Check, Jump, Exit, Place, At}
use Rattle.unwind.specs.Unwind.{becomes}

-- a where place j is active, else b
abbrev pub gate : (w j a b : ℕ) → ℕ
gate w j a b = cond (leb w j) a b

abbrev pub act : (j : ℕ) → Action → (w : ℕ) → Env → (rest : ℕ → Env → Outcome) → Outcome
act j (Set s e) w ρ rest = rest w (update ρ s (gate w j (value ρ e) (ρ s)))
act j (Check k e) w ρ rest = cond (truthy (gate w j (value ρ e) 1)) (rest w ρ) (Failed k j)
act j (Jump g e) w ρ rest = rest (gate w j (cond (truthy (value ρ e)) g w) w) ρ
act j (Exit g) w ρ rest = rest (gate w j g w) ρ

abbrev pub gated_run : List Place → (w : ℕ) → Env → Outcome
gated_run [] w ρ = Ended
gated_run (At j a ∷ ps) w ρ = act j a w ρ (gated_run ps)

-- an outcome, as a trace shows it in which the bound's test is of kind `cut`
abbrev pub shown_as : (cut : Kind) → Outcome → Outcome
shown_as cut Ended = Ended
shown_as cut (Failed k p) = Failed (becomes cut k) p
shown_as cut Lost = Lost
