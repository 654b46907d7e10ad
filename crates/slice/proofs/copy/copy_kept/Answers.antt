-- A turn's offset and flag are those at the number of turns before it.
use Prim.Native.Nat.{ℕ, ◌<◌}
use native.Mathlib.Omega.{arith}
use mathlib.Core.Path.{◌≡◌}
use mathlib.Core.Bool.{Bool, false}
use lib.ListN.{length, get_or, length-append}
use Rattle.std.proofs.lemmas.Slice.Zip.{zip_turn, zip_end}
use Rattle.slice.proofs.Statements.{At, counted, stands_at}
use Rattle.slice.proofs.Copies.{copy_room, copy_on, all_copied}
use Rattle.slice.proofs.copy.copy_kept.Goals as goal
use Rattle.slice.proofs.copy.copy_kept.Goals.{In-Some}

module _ (c : In-Some) where
  abbrev k : ℕ
  k = length c.loop-from.yielded

  turn : (k < length c.args.offsets.now) × (k < length c.args.flags.now)
      × ((d : ℕ) → c.in-Some.field-0-0.now ≡ get_or c.args.offsets.now k d)
      × ((d : Bool) → c.in-Some.field-0-1.now ≡ get_or c.args.flags.now k d)
  turn = zip_turn c.args.offsets.now c.args.flags.now c.loop-from.yielded _ _ c.next.new.self _ (cc) (cc) c.loop-from.yielded_by _
      c.in-Some.is c.next.ensures.steps

  here : At c.requires.0 k c.in-Some.field-0-0.now
  here = stands_at c.requires.0 k turn.0 (turn.2 0)

pub copy_record-at-requires : goal.copy_record-at-requires
copy_record-at-requires c =
    let place = (goal.at.copy_record-at-requires c).In-Some in
    let x = here place in (
      c.type_inv.from.fits,
      x.good,
      copy_room c.loop-from.invariant x.statement x.after x.is-here (turn place).1 ((turn place).3 false) x.is-held c.requires.2,
    )

pub loop-from-preserved : goal.loop-from-preserved
loop-from-preserved c =
    let place = (goal.at.loop-from-preserved c).In-Some in
    let x = here place in
    rw (length-append c.loop-from.yielded _)
    (copy_on c.loop-from.invariant x.statement x.after x.is-here (turn place).1 ((turn place).3 false) x.is-held
    (omega (arith, (turn place).0, counted c.requires.0)) c.copy_record-at.ensures)

pub returns : goal.returns
returns c =
    let ends = zip_end c.args.offsets.now c.args.flags.now c.loop-from.yielded _ _ c.next.new.self _ (cc) (cc) c.loop-from.yielded_by
    c.in-None.is c.next.ensures.steps in
    all_copied c.loop-from.invariant (grind (arith, ends, counted c.requires.0))
