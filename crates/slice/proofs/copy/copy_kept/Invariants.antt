-- Each turn leaves one statement fewer; what is copied and what is left make the whole (`Copying`).
use lib.ListN.{length}
use Rattle.file.specs.Shown.{listed}
use Rattle.trace.specs.Trace.{read_trace}
use Rattle.slice.proofs.Copies.{Copying}
use Rattle.slice.proofs.copy.copy_kept.Given as goal

abbrev pub invariant-loop-from : goal.invariant-loop-from
invariant-loop-from l = Copying (listed (read_trace l.trace)) l.flags l.initial.out l.to l.out (length l.yielded) l.at
