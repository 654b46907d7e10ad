use Rattle.std.proofs.Common.{rules}
use Rattle.write.proofs.Decimal.{counting_start, count-on}
use Rattle.write.proofs.digits.Goals as goal

pub loop-rest-init : goal.loop-rest-init
loop-rest-init c = counting_start _ (search rules)

pub loop-rest-preserved : goal.loop-rest-preserved
loop-rest-preserved c = count-on c.loop-rest.invariant c.loop-rest-test.true
