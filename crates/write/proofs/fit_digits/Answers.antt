use Rattle.std.proofs.Common.{arith}
use Rattle.write.proofs.Decimal.{store_on, stored}
use Rattle.write.proofs.fit_digits.Goals as goal

pub loop-i-preserved : goal.loop-i-preserved
loop-i-preserved c = rw c.store.ensures (store_on c.loop-i.invariant _ (omega arith))

pub returns : goal.returns
returns c = let d = c.digits-k.ensures in (stored c.loop-i.invariant (omega arith) d.0, omega arith)
