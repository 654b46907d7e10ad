use Prim.Native.Nat.{◌≤◌}
use native.Mathlib.Omega.{arith}
use mathlib.Core.Path.{◌≡◌}
use lib.ListN.{length}
use Rattle.file.specs.Shown.{listed}
use Rattle.table.specs.Table.{read_table}
use Rattle.unwind.proofs.Accepted.{bytes, counted, few}
use Rattle.unwind.proofs.Copies.{readable, room-here, place-on, exit_room, copy_end}
use Rattle.unwind.proofs.copy.write_copy.Goals as goal
use Rattle.unwind.proofs.copy.write_copy.Goals.{Start}

module _ (c : Start) where
  count-is : length (listed (read_table c.args.source.table.now)) ≡ length c.args.source.offsets.now
  count-is = counted _ _ _ (bytes c.args.source) c.args.source.ready

  bounds : record {
    few : length c.args.source.offsets.now ≤ 1024;
    inside : c.args.r ≤ c.args.bound;
    small : c.args.bound ≤ 255;
  }
  bounds = record { few = few _ _ _ (bytes c.args.source) c.args.source.ready; inside = c.requires.0; small = c.requires.1 }

pub invariant_of-copy : goal.invariant_of-copy
invariant_of-copy c = bounds (goal.at.invariant_of-copy c).Start

pub write_place-g-requires : goal.write_place-g-requires
write_place-g-requires c =
    let pre = c.requires in
    let v = c.loop-i.invariant in
    let h = c.loop-i-test.true in
    let o = bytes c.args.source in (
      h,
      omega (arith, v.fresh, pre.2),
      readable _ _ _ o c.args.source.ready v pre.3 h _ c.from.ensures,
      room-here _ _ _ o c.args.source.ready v pre.3 h _ c.from.ensures pre.4,
    )

pub loop-i-preserved : goal.loop-i-preserved
loop-i-preserved c =
    let pre = c.requires in
    place-on _ _ _ (bytes c.args.source) c.args.source.ready c.loop-i.invariant pre.3 c.loop-i-test.true _
    c.from.ensures _ _ _ c.write_place-g.auto.names c.write_place-g.ensures

pub invariant_of-copy-2 : goal.invariant_of-copy-2
invariant_of-copy-2 c = bounds (goal.at.invariant_of-copy-2 c).Start

pub put_exit-to-requires : goal.put_exit-to-requires
put_exit-to-requires c = (
  grind arith,
  grind arith,
  exit_room c.loop-i.invariant (count-is (goal.at.put_exit-to-requires c).Start) c.loop-i-test.false c.requires.4,
)

pub returns : goal.returns
returns c =
    rw c.moved.ensures
    (copy_end c.loop-i.invariant (count-is (goal.at.returns c).Start) c.loop-i-test.false _ _ c.place.ensures.0
    c.end.ensures.0 _ _ c.put_exit-to.ensures)
