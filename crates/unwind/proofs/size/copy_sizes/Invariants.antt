-- The invariant is `Summing`, for both sizes: see there.
use mathlib.Core.Bool.{true, false}
use Rattle.file.specs.Shown.{listed}
use Rattle.table.specs.Table.{read_table}
use Rattle.unwind.proofs.Sizes.{Summing}
use Rattle.unwind.proofs.size.copy_sizes.Given as goal

abbrev pub invariant-loop-i : goal.invariant-loop-i
invariant-loop-i l =
    Summing false (listed (read_table l.source.table.now)) l.i l.sum.early
    × Summing true (listed (read_table l.source.table.now)) l.i l.sum.last
