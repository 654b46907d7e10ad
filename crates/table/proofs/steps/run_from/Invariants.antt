-- The invariant is `Running`: see there. Each turn leaves fewer instructions to come to.
use lib.ListN.{length}
use Rattle.file.specs.Shown.{listed}
use Rattle.table.specs.Table.{read_table}
use Rattle.table.specs.RunLaws.{left}
use Rattle.table.proofs.Running.{Running}
use Rattle.table.proofs.steps.run_from.Given as goal

abbrev pub invariant-loop-spot : goal.invariant-loop-spot
invariant-loop-spot l =
    Running (listed (read_table l.table)) l.bound (length l.offsets) l.initial.vals l.vals l.spot.i l.spot.r

abbrev pub decreases-loop-spot : goal.decreases-loop-spot
decreases-loop-spot l = left (length (listed (read_table l.table))) l.bound l.spot.i l.spot.r
