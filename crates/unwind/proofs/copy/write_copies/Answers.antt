use native.Mathlib.Omega.{arith}
use mathlib.Core.Path.{◌≡◌}
use lib.ListN.{length}
use Rattle.file.specs.Shown.{listed}
use Rattle.table.specs.Table.{read_table}
use Rattle.unwind.proofs.Accepted.{bytes, counted}
use Rattle.unwind.proofs.Copies.{copies-start, copies-room, copies-on, copies-end, fresh-fits}
use Rattle.unwind.proofs.copy.write_copies.Goals as goal
use Rattle.unwind.proofs.copy.write_copies.Goals.{Start}

count-is : (c : Start) → length (listed (read_table c.args.source.table.now)) ≡ length c.args.source.offsets.now
count-is c = counted _ _ _ (bytes c.args.source) c.args.source.ready

pub loop-r-init : goal.loop-r-init
loop-r-init c = copies-start _ _ _ _ _ _

pub write_copy-g-requires : goal.write_copy-g-requires
write_copy-g-requires c =
    let pre = c.requires in
    let v = c.loop-r.invariant in
    let h = c.loop-r-test.true in (
      h,
      pre.0,
      fresh-fits _ _ _ _ _ h v.fresh pre.1,
      omega (arith, v.wide, pre.2),
      copies-room (count-is (goal.at.write_copy-g-requires c).Start) v h
          pre.3,
    )

pub loop-r-preserved : goal.loop-r-preserved
loop-r-preserved c =
    copies-on (count-is (goal.at.loop-r-preserved c).Start) c.loop-r.invariant c.loop-r-test.true _ _ _
    c.write_copy-g.auto.names c.write_copy-g.ensures

-- behind the last copy
pub returns-2 : goal.returns-2
returns-2 c =
    let q = count-is (goal.at.returns-2 c).Start in
    copies-end q
    (copies-on q c.loop-r.invariant c.loop-r-test.true _ _ _ c.write_copy-g.auto.names c.write_copy-g.ensures) (omega arith)
