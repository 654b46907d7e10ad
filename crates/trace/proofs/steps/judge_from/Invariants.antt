-- The invariant is `Judging`: see there.
use Rattle.file.specs.Shown.{listed}
use Rattle.trace.specs.Trace.{read_trace}
use Rattle.trace.proofs.Judging.{Judging}
use Rattle.trace.proofs.steps.judge_from.Given as goal

abbrev pub invariant-loop-at : goal.invariant-loop-at
invariant-loop-at l = Judging (listed (read_trace l.trace)) l.initial.cells l.cells l.at-index
