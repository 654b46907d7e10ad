use native.Mathlib.Omega.{arith}
use Rattle.expr.specs.Lists.{all-at}
use Rattle.expr.specs.Number.{Byte}
use Rattle.trace.proofs.Standing.{accepted-stand}
use Rattle.trace.proofs.records.Records.first.Goals as goal

pub invariant_of-result : goal.invariant_of-result
invariant_of-result c =
    accepted-stand _ _ (all-at Byte c.args.trace.now (λ i h. (c.type_inv.trace i).fits)) c.requires.0 (grind arith)
    c.header_size.ensures
