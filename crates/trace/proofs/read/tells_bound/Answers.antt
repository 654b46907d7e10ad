use mathlib.Core.Path.{refl}
use Rattle.trace.specs.Trace.{trace_version, tells_bound}
use Rattle.trace.proofs.read.tells_bound.Goals as goal

pub returns : goal.returns
unfolding tells_bound trace_version
returns c = refl
