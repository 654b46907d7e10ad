use Prim.Native.Nat.{ℕ, ◌≤◌}
use native.Mathlib.Omega.{arith}
use mathlib.Core.Path.{◌≡◌, refl, sym, ap, ◌∙◌}
use mathlib.Core.List.{List}
use lib.ListN.{length}
use Rattle.expr.specs.Lists.{All, all-at}
use Rattle.expr.specs.Number.{Byte}
use Rattle.file.specs.File.{header_inputs, head_of}
use Rattle.file.specs.Shown.{is_good, listed}
use Rattle.table.specs.Table.{read_table}
use Rattle.table.proofs.Running.{Loaded, loaded, On, start, here, end, halts, goes_on}
use Rattle.table.proofs.steps.run_from.Goals as goal
use Rattle.table.proofs.steps.run_from.Goals.{After-shared_slice_known-1, In-Ok}

-- what the loop knows of the table, from the function's entry and the bytes' own range
module _ (c : After-shared_slice_known-1) where
  abbrev n : ℕ
  n = length c.args.offsets.now

  bytes : All Byte c.args.table.now
  bytes = all-at Byte c.args.table.now (λ i h. (c.shared_slice_known-1.given i).fits)

  is-loaded : Loaded c.args.table.now (head_of c.args.table.now) (listed (read_table c.args.table.now))
  is-loaded = loaded c.args.table.now bytes c.requires.1.accepted

  counted : length (listed (read_table c.args.table.now)) ≡ n
  counted = is-loaded.table.count ∙ sym c.requires.1.count

  symbols : (vals : List ℕ) → length vals ≡ length c.args.vals.now → header_inputs c.args.table.now ≤ length vals
  symbols vals e = omega (arith, c.requires.2)

  few : n ≤ 1024
  few = omega (arith, counted, is-loaded.table.few)

pub loop-spot-init : goal.loop-spot-init
loop-spot-init c =
    let place = (goal.at.loop-spot-init c).After-shared_slice_known-1 in
    start c.args.table.now c.args.offsets.now (n place) c.args.bound (length c.args.vals.now) _ _ (is-loaded place)
    (counted place) (symbols place c.args.vals.now refl) c.requires.1.stored c.args.vals.now

pub step-requires : goal.step-requires
step-requires c =
    let place = (goal.at.step-requires c).After-shared_slice_known-1 in
    let v = c.loop-spot.invariant in (
      grind (arith, c.type_inv.offsets c.loop-spot.spot.i),
      few place,
      c.loop-spot-test.true,
      v.few,
      c.requires.0,
      ap is_good (here c.args.table.now c.args.offsets.now (n place) c.args.bound (length c.loop-spot.vals) _ _
          (is-loaded place) (counted place) (symbols place c.loop-spot.vals v.long) c.requires.1.stored c.args.vals.now c.loop-spot.spot.i
          c.loop-spot-test.true).good,
    )

-- a turn that goes on
on : (c : In-Ok) → On (listed (read_table c.args.table.now)) c.args.bound (length c.args.offsets.now) c.args.vals.now c.step.new.vals
    c.loop-spot.spot.i c.loop-spot.spot.r c.in-Ok.next.i c.in-Ok.next.r
on c =
    let place = (goal.at.In-Ok c).After-shared_slice_known-1 in
    let v = c.loop-spot.invariant in
    goes_on c.args.table.now c.args.offsets.now (n place) c.args.bound (length c.loop-spot.vals) _ _ (is-loaded place) (counted place)
    (symbols place c.loop-spot.vals v.long) c.requires.1.stored c.args.vals.now v c.loop-spot-test.true c.step.result c.step.new.vals
    c.step.ensures c.step.auto.vals c.in-Ok.next c.in-Ok.is

pub loop-spot-preserved : goal.loop-spot-preserved
loop-spot-preserved c = (on (goal.at.loop-spot-preserved c).In-Ok).running

pub returns-in-Err : goal.returns-in-Err
returns-in-Err c =
    let place = (goal.at.returns-in-Err c).After-shared_slice_known-1 in
    let v = c.loop-spot.invariant in
    halts c.args.table.now c.args.offsets.now (n place) c.args.bound (length c.loop-spot.vals) _ _ (is-loaded place) (counted place)
    (symbols place c.loop-spot.vals v.long) c.requires.1.stored c.args.vals.now v c.loop-spot-test.true c.step.result c.step.new.vals
    c.step.ensures c.in-Err.failure c.in-Err.is

pub returns : goal.returns
returns c =
    let place = (goal.at.returns c).After-shared_slice_known-1 in
    let v = c.loop-spot.invariant in
    end c.args.table.now c.args.offsets.now (n place) c.args.bound (length c.loop-spot.vals) _ _ (is-loaded place)
    (counted place) (symbols place c.loop-spot.vals v.long) c.requires.1.stored c.args.vals.now v c.loop-spot-test.false
