-- Each turn takes the last of the offsets that are left.
use Prim.Native.Nat.{ℕ, suc}
use native.Mathlib.Omega.{arith}
use mathlib.Core.Path.{◌≡◌, ap, ◌∙◌}
use lib.ListN.{length, get_or}
use Rattle.expr.specs.Lists.{All, all-at}
use Rattle.expr.specs.Number.{Byte}
use Rattle.slice.proofs.Records.{record-length}
use Rattle.slice.proofs.Statements.{At, is-loaded, counted, stands_at}
use Rattle.slice.proofs.Walk.{records-small, walking_start, few-behind, small-behind, walk-on, one-less, last_is, left-on}
use Rattle.slice.proofs.back.walk_back.Goals as goal
use Rattle.slice.proofs.back.walk_back.Goals.{In-Some}

pub loop-k-init : goal.loop-k-init
loop-k-init c =
    let all : c.into_iter-k-iterator.result.iter.iter.rest.now ≡ c.args.offsets.now = (cc) in (
      cc,
      record { few = omega (arith, ap length all); same = λ i h. ap (λ r. get_or r i 0) all },
      walking_start _ _ _ _ (ap length all ∙ counted c.requires.0) (grind (arith, ap length all)) c.requires.2 c.requires.3,
    )

module _ (c : In-Some) where
  bytes : All Byte c.args.trace.now
  bytes = all-at Byte c.args.trace.now (λ i h. (c.type_inv.trace i).fits)

  abbrev k : ℕ
  k = length c.next.new.self.iter.iter.rest.now

  next : suc k ≡ length c.loop-k.k-iterator.iter.iter.rest.now
  next = one-less c.loop-k.invariant.1 _ _ c.in-Some.ensures.steps.1.0

  k-is : c.in-Some.k ≡ k
  k-is = grind arith

  here : At c.requires.0 k c.in-Some.field-0-1.now
  here =
      stands_at c.requires.0 k (grind (arith, next))
      (last_is c.loop-k.invariant.1 _ _ c.in-Some.ensures.steps.1.0)

pub step_back-behind-requires : goal.step_back-behind-requires
step_back-behind-requires c =
    let place = (goal.at.step_back-behind-requires c).In-Some in
    let w = c.loop-k.invariant.2 in (
      c.type_inv.at.fits,
      omega (arith, k-is place, next place, w.inside, w.room),
      few-behind w (is-loaded c.requires.0).few,
      small-behind w (records-small c.args.trace.now (bytes place) c.requires.0.accepted),
      (here place).good,
    )

pub loop-k-preserved : goal.loop-k-preserved
loop-k-preserved c =
    let place = (goal.at.loop-k-preserved c).In-Some in
    let x = here place in (
      c.next.ensures.steps.0 ∙ c.loop-k.invariant.0,
      left-on c.loop-k.invariant.1 _ _ c.in-Some.ensures.steps.1.0,
      walk-on c.loop-k.invariant.2 (next place) x.is-here
          (record-length c.args.trace.now c.in-Some.field-0-1.now (bytes place) x.statement x.is-held)
          x.is-held (k-is place) c.step_back-behind.ensures c.step_back-behind.auto.kept,
    )
