use Prim.Native.Nat.{◌+◌, ◌≤◌}
use native.Mathlib.Omega.{arith}
use mathlib.Core.Path.{sym, subst}
use lib.ListN.{length}
use Rattle.expr.specs.Lists.{All, all-at}
use Rattle.expr.specs.Number.{Byte}
use Rattle.trace.specs.Shown.{symbol_room, loose}
use Rattle.trace.proofs.Held.{Held, held_at}
use Rattle.write.specs.SpliceLaws.{wrote_as}
use Rattle.slice.proofs.Copies.{part-is, none_written}
use Rattle.slice.proofs.copy.copy_record.Goals as goal
use Rattle.slice.proofs.copy.copy_record.Goals.{After-shared_slice_known-1, Start}

here : (c : Start) → Held symbol_room loose c.args.trace.now c.args.at
here c = held_at symbol_room loose c.args.trace.now c.args.at c.requires.1

bytes : (c : After-shared_slice_known-1) → All Byte c.args.trace.now
bytes c = all-at Byte c.args.trace.now (λ i h. (c.shared_slice_known-1.given i).fits)

pub rest_of-requires : goal.rest_of-requires
rest_of-requires c = (omega arith, (here (goal.at.rest_of-requires c).Start).whole)

pub put_part-requires : goal.put_part-requires
put_part-requires c =
    subst (λ bs. c.args.to + length bs ≤ length c.args.out.now)
    (sym (part-is (here (goal.at.put_part-requires c).Start) c.args.keep
    (bytes (goal.at.put_part-requires c).After-shared_slice_known-1) c.if-keep.true
    c.rest_of.ensures)) c.requires.2

pub returns-then-keep : goal.returns-then-keep
returns-then-keep c =
    wrote_as (part-is (here (goal.at.returns-then-keep c).Start) c.args.keep
    (bytes (goal.at.returns-then-keep c).After-shared_slice_known-1)
    c.if-keep.true c.rest_of.ensures)
    c.put_part.ensures

pub returns : goal.returns
returns c = none_written (here (goal.at.returns c).Start) c.args.keep c.args.out.now c.args.to c.if-keep.false
