-- The invariant is `InCopies`: see there.
use lib.ListN.{length}
use Rattle.file.specs.Shown.{listed}
use Rattle.table.specs.Table.{read_table}
use Rattle.unwind.proofs.Copies.{InCopies}
use Rattle.unwind.proofs.copy.write_copies.Given as goal

abbrev pub invariant-loop-r : goal.invariant-loop-r
invariant-loop-r l =
    InCopies (listed (read_table l.source.table.now)) (length l.source.offsets.now) l.bound l.initial.names l.initial.g
    l.initial.out l.names l.out l.r l.g
