-- What is left of the iterator are the first offsets; with the statements behind them the walk is as `Walking` says.
use mathlib.Core.Path.{◌≡◌}
use lib.ListN.{length}
use Rattle.file.specs.Shown.{listed}
use Rattle.trace.specs.Trace.{read_trace}
use Rattle.slice.specs.Shown.{in_set}
use Rattle.slice.proofs.Walk.{Left, Walking}
use Rattle.slice.proofs.back.walk_back.Given as goal

abbrev pub invariant-loop-k : goal.invariant-loop-k
invariant-loop-k l =
    let left = l.k-iterator.iter.iter.rest.now in
    (l.k-iterator.iter.count ≡ 0) × Left l.offsets left
    × Walking (listed (read_trace l.trace)) l.initial.kept l.kept (in_set l.needed) (length left) l.behind
