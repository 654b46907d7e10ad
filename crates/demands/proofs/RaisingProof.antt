-- Raising the bound: a run that K does not cut is the very same under L (`run-raised`), so it is answered alike; a violation is not cut. A
-- judged trace answers what its run does (`judged-run`), and a slice is violated where the run is (demand 3).
use Prim.Native.Nat.{ℕ, ◌≤◌, ◌<◌}
use native.Mathlib.Omega.{arith}
use native.Mathlib.Decide.{dec_lt}
use mathlib.Core.Path.{◌≡◌, refl, sym, ap, ◌∙◌, subst, subst⁻¹}
use mathlib.Core.Bool.{Bool, true, false, cond}
use mathlib.Core.List.{List}
use lib.ListN.{length}
use lib.Dec.{eqb}
use borrow.Author.Tests.{le-leb, lt-leb}
use Rattle.expr.specs.Lists.{All}
use Rattle.expr.specs.Number.{Byte}
use Rattle.file.specs.File.{Head, header_inputs, Input, Accepted, Refused}
use Rattle.table.specs.Table.{Instr, read_table}
use Rattle.table.specs.TableLaws.{table-ok}
use Rattle.table.specs.Run.{run}
use Rattle.table.specs.BoundLaws.{run-raised}
use Rattle.table.specs.Answer.{refusal, answer_of, answered, run_answer}
use Rattle.unwind.specs.Answer.{trace_answer}
use Rattle.unwind.proofs.AnswerLaws.{trace_written}
use Rattle.demands.specs.Valuation.{Handed, ran_with, judged_with}
use Rattle.demands.specs.Demand3.{RunUnsafeAt, UnsafeAt}
use Rattle.demands.specs.Raising.{RunsRaised, TracesRaised, Settled}
use Rattle.demands.proofs.ValuationLaws.{words_in, ran-words}
use Rattle.demands.proofs.Demand3Proof.{judged_as, judged-run, demand3}

-- ---- running

module _ (b : List ℕ) (K L : ℕ) (o : All Byte b) (l : K ≤ L) (m : L ≤ 255) where
  answer-raised : (words : List ℕ) → ((run_answer b K words).verdict ≡ 3 → ⊥) → run_answer b L words ≡ run_answer b K words
  unfolding run_answer
  answer-raised words = go (read_table b) refl
    where
      -- an accepted table under a bound of up to 255
      under : (head : Head) (is : List Instr) (N : ℕ) → N ≤ 255 → answered N words (Accepted head is)
          ≡ cond (eqb (length words) head.inputs) (answer_of (run is N words)) (refusal 11 0)
      under head is N k =
          ap (λ x. cond x (cond (eqb (length words) head.inputs) (answer_of (run is N words)) (refusal 11 0)) (refusal 8 0))
          (le-leb N 255 k)

      go : (i : Input Instr) → read_table b ≡ i → ((answered K words i).verdict ≡ 3 → ⊥) → answered L words i ≡ answered K words i
      go (Refused r at) e whole = refl
      go (Accepted head is) e whole =
          let k : K ≤ 255 = omega arith in
          under head is L m
          ∙ picked (eqb (length words) head.inputs) (subst (λ a. a.verdict ≡ 3 → ⊥) (under head is K k) whole)
          ∙ sym (under head is K k)
        where
          picked : (y : Bool) → ((cond y (answer_of (run is K words)) (refusal 11 0)).verdict ≡ 3 → ⊥)
              → cond y (answer_of (run is L words)) (refusal 11 0) ≡ cond y (answer_of (run is K words)) (refusal 11 0)
          picked true whole = ap answer_of (run-raised K L l is head.inputs (table-ok b head is o e).ok words whole)
          picked false whole = refl

  same-run : (h : Handed) (v : List ℕ) → ((ran_with h b K v).verdict ≡ 3 → ⊥) → ran_with h b L v ≡ ran_with h b K v
  same-run h v whole =
      ran-words h b L v
      ∙ answer-raised (words_in h (header_inputs b) v) (subst (λ a. a.verdict ≡ 3 → ⊥) (ran-words h b K v) whole)
      ∙ sym (ran-words h b K v)

  pub runs-raised : RunsRaised b K L
  runs-raised = record {
    violation = λ h v p u. subst⁻¹ (RunUnsafeAt p) (same-run h v (λ c. omega (arith, u.1, c))) u;
    not_cut = same-run;
  }

-- a bound above 255 is refused
too_high : (b : List ℕ) (L : ℕ) → 255 < L → (words : List ℕ) → (run_answer b L words).verdict ≡ 0
unfolding run_answer
too_high b L m words = go (read_table b)
  where
    go : (i : Input Instr) → (answered L words i).verdict ≡ 0
    go (Refused r at) = refl
    go (Accepted head is) =
        ap (λ x. (cond x (cond (eqb (length words) head.inputs) (answer_of (run is L words)) (refusal 11 0)) (refusal 8 0)).verdict)
        (lt-leb L 255 m)

-- under a lower bound a violation would be one under K, under a higher one the run is the same
pub settled : (b : List ℕ) (K : ℕ) → All Byte b → K ≤ 255 → Settled b K
settled b K o k = record { never = never }
  where
    never : (h : Handed) (v : List ℕ) → ((ran_with h b K v).verdict ≡ 1 → ⊥) → ((ran_with h b K v).verdict ≡ 3 → ⊥)
        → (L : ℕ) → (ran_with h b L v).verdict ≡ 1 → ⊥
    never h v safe whole L e =
        elim (dec_lt 255 L) [
          | yes m ↦ omega (arith, ap (λ a. a.verdict) (ran-words h b L v), too_high b L m (words_in h (header_inputs b) v), e)
          | no m ↦ elim (dec_lt L K) [
            | yes l ↦ safe (ap (λ a. a.verdict) (same-run b L K o (omega arith) k h v (λ c. omega (arith, e, c))) ∙ e)
            | no l ↦ safe (sym (ap (λ a. a.verdict) (same-run b K L o (omega arith) (omega arith) h v whole)) ∙ e)
          ]
        ]

-- ---- judging

module _ (b : List ℕ) (K L room room' : ℕ) (o : All Byte b) (l : K ≤ L) (lower : (trace_answer b K room).reply ≡ 0)
    (higher : (trace_answer b L room').reply ≡ 0) where
  abbrev t : List ℕ
  t = (trace_answer b K room).bytes

  abbrev u : List ℕ
  u = (trace_answer b L room').bytes

  raised : RunsRaised b K L
  raised = runs-raised b K L o l (trace_written b L room' higher).2.bound

  same-judged : (h : Handed) (v : List ℕ) → ((judged_with h t v).verdict ≡ 3 → ⊥) → judged_with h u v ≡ judged_with h t v
  same-judged h v whole =
      judged-run b L room' o higher h v
      ∙ ap judged_as (raised.not_cut h v (subst (λ a. a.verdict ≡ 3 → ⊥) (judged-run b K room o lower h v) whole))
      ∙ sym (judged-run b K room o lower h v)

  pub traces_raised : TracesRaised (trace_answer b K room).bytes (trace_answer b L room').bytes
  traces_raised = record {
    violation = λ h v p s. subst⁻¹ (UnsafeAt p) (same-judged h v (λ c. omega (arith, s.1, c))) s;
    slice-violation = λ r r' d d' h v p s.
        (((demand3 b L room' o higher).alike h r' d').run-slice v p).0
        (raised.violation h v p ((((demand3 b K room o lower).alike h r d).run-slice v p).1 s));
    not_cut = same-judged;
  }
