-- Judging the trace of a table is running the table under the same bound. Between the two stands the gated run, straight over the
-- list of places. First, judging follows it in lock-step: at every statement the newest symbols hold the program's symbols and
-- control, a new symbol never overwrites an older one, and a guarded expression gives its old value unless its place is active.
-- Second, the direct run follows it as well: where the run stands the place is active; from a jump up to its goal, and from the exit
-- on, control is above every place, so none of them does anything; and every step leaves fewer places, so the fuel is enough.
-- Place numbers may be as large as they like: judging compares control with a place as natural numbers.
use Rattle.std.specs.Prelude.{ℕ, ◌≡◌, refl, List, [], ◌∷◌, length}
use Rattle.std.proofs.Common.{arith, ap, ◌∙◌}
use Rattle.expr.specs.Lists.{All}
use Rattle.expr.specs.declared.token.Token.TheVariants.{Const}
use Rattle.expr.specs.Eval.{Env, env_of, update}
use Rattle.expr.proofs.EvalLaws.{value-top, update_same, update_other}
use Rattle.file.specs.Outcome.{Kind, Assume, Assert, Bound, Outcome, Ended, Failed, Lost}
use Rattle.table.specs.Table.{Instr}
use Rattle.table.specs.TableLaws.{InstrOk}
use Rattle.table.specs.Run.{run}
use Rattle.trace.specs.Judge.{judge}
use Rattle.unwind.specs.Places.{end_of, places}
use Rattle.unwind.specs.Unwind.{statements, at_first, unwind}
use Rattle.unwind.proofs.UnwindLaws.{places-ok}
use Rattle.unwind.specs.Gated.{shown_as}
use Rattle.unwind.proofs.GatedLaws.{Mirrors, judge_gated, gated_runs}

-- ---- judging is running

-- after the opening
first_mirrors : (S : ℕ) (ρ : Env) → Mirrors S (at_first S) (update ρ S 0) ρ 0
first_mirrors S ρ = record {
  current-is = λ s h. update_other ρ S 0 s (λ e. omega arith);
  current-old = λ s h. omega arith;
  control-is = update_same ρ S 0;
  control-old = omega arith;
}

-- as the trace shows it, with the reason and the place: with an Assume for the bound's test, as version 129 has it, a run that is cut
-- shows as stopped
pub judge-unwind : (cut : Kind) (S : ℕ) (is : List Instr) (K : ℕ) (words : List ℕ) → All (InstrOk S (length is)) is
    → judge (unwind cut S is K) (env_of words) ≡ shown_as cut (run is K words).outcome
unfolding unwind judge
judge-unwind cut S is K words o =
    ap (λ v. judge (statements cut (at_first S) (places is K)) (update (env_of words) S v)) (value-top (env_of words) (Const 0 ∷ []) refl)
    ∙ judge_gated cut S (end_of (length is) K) (places is K) (places-ok S is K o) (at_first S) (update (env_of words) S 0) (env_of words) 0
    (first_mirrors S (env_of words))
    ∙ ap (shown_as cut) (gated_runs S is K words o)

-- with a kind of its own for the bound's test, the very outcome
pub judge-unwind-cut : (S : ℕ) (is : List Instr) (K : ℕ) (words : List ℕ) → All (InstrOk S (length is)) is
    → judge (unwind Bound S is K) (env_of words) ≡ (run is K words).outcome
judge-unwind-cut S is K words o = judge-unwind Bound S is K words o ∙ shown-same (run is K words).outcome
  where
    shown-same : (x : Outcome) → shown_as Bound x ≡ x
    shown-same Ended = refl
    shown-same (Failed Assume p) = refl
    shown-same (Failed Assert p) = refl
    shown-same (Failed Bound p) = refl
    shown-same Lost = refl
