use Rattle.write.proofs.Parts.{copied_none, copied_more}
use Rattle.write.proofs.put_part.Goals as goal

pub loop-i-init : goal.loop-i-init
loop-i-init c = copied_none _ _

pub loop-i-preserved : goal.loop-i-preserved
loop-i-preserved c = copied_more _ _ c.loop-i-test.true c.loop-i.invariant
