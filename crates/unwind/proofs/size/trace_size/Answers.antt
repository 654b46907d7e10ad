use Prim.Native.Nat.{◌+◌, ◌*◌}
use mathlib.Core.Path.{ap₂}
use Rattle.trace.specs.Trace.{trace_version}
use Rattle.unwind.proofs.size.trace_size.Goals as goal

pub returns : goal.returns
unfolding trace_version
returns c =
    ap₂ (λ h n. h + (12 + n)) c.head_size.ensures.0
    (ap₂ (λ e l. c.args.bound * e + l) c.copy_sizes-s.ensures.0
    c.copy_sizes-s.ensures.1)
