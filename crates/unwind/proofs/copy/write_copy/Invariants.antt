-- The invariant is `InCopy`: see there. The exit comes last.
use lib.ListN.{length}
use Rattle.file.specs.Shown.{listed}
use Rattle.table.specs.Table.{read_table}
use Rattle.unwind.proofs.Copies.{InCopy}
use Rattle.unwind.proofs.copy.write_copy.Given as goal

abbrev pub invariant-loop-i : goal.invariant-loop-i
invariant-loop-i l =
    InCopy (listed (read_table l.source.table.now)) (length l.source.offsets.now) l.bound l.r l.initial.names l.initial.g
    l.initial.out l.names l.out l.i l.g
