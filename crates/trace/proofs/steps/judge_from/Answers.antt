use Prim.Native.Nat.{ℕ}
use native.Mathlib.Omega.{arith}
use mathlib.Core.Path.{◌≡◌, sym, ap, ◌∙◌}
use lib.ListN.{length}
use Rattle.std.specs.Prelude.{Result, Err}
use Rattle.std.proofs.lemmas.Result.{err_from_is_err_and}
use Rattle.file.specs.Shown.{is_good, listed, outcome_of}
use Rattle.file.specs.declared.Failure.{Failure}
use Rattle.trace.specs.Trace.{read_trace}
use Rattle.trace.proofs.Judging.{Loaded, loaded, here, end, halts, goes_on}
use Rattle.trace.proofs.steps.judge_from.Goals as goal
use Rattle.trace.proofs.steps.judge_from.Goals.{Start}

-- what the loop knows of the trace from the function's entry
module _ (c : Start) where
  abbrev n : ℕ
  n = length c.args.offsets.now

  is-loaded : Loaded c.args.trace.now (listed (read_trace c.args.trace.now))
  is-loaded = loaded c.args.trace.now c.requires.0.accepted

  counted : length (listed (read_trace c.args.trace.now)) ≡ n
  counted = is-loaded.count ∙ sym c.requires.0.count

pub step_at-requires : goal.step_at-requires
step_at-requires c =
    let place = (goal.at.step_at-requires c).Start in (
      c.type_inv.at.fits,
      c.loop-at.invariant.long ∙ c.requires.1,
      ap is_good (here c.args.trace.now c.args.offsets.now (n place) _ (is-loaded place) c.requires.0.count c.requires.0.stored
          c.loop-at.at-index c.loop-at-test.true).good,
    )

pub returns-in_err-step_at : goal.returns-in_err-step_at
returns-in_err-step_at c =
    let place = (goal.at.returns-in_err-step_at c).Start in
    let p = err_from_is_err_and c.from_residual.result c.from_residual.ensures.1 in
    ap outcome_of (p.1 ∙ ap {B = Result (Unit {0}) Failure} Err p.2)
    ∙ halts c.args.trace.now c.args.offsets.now (n place) _ (is-loaded place) c.requires.0.count c.requires.0.stored
    c.args.cells.now c.loop-at.invariant c.loop-at-test.true _ c.step_at.new.cells c.step_at.ensures _ c.in_err-step_at.was

pub loop-at-preserved : goal.loop-at-preserved
loop-at-preserved c =
    let place = (goal.at.loop-at-preserved c).Start in
    goes_on c.args.trace.now c.args.offsets.now (n place) _ (is-loaded place) c.requires.0.count c.requires.0.stored
    c.args.cells.now c.loop-at.invariant c.loop-at-test.true _ c.step_at.new.cells c.step_at.ensures c.step_at.auto.cells
    c.in_ok-step_at.was

pub returns : goal.returns
returns c = end c.loop-at.invariant (grind (arith, counted (goal.at.returns c).Start))
