use Rattle.script.proofs.Letters.{closing_start, closing_on, closing_end}
use Rattle.script.proofs.term.put_closings.Goals as goal

pub loop-init : goal.loop-init
loop-init c = closing_start _ _ _

pub loop-preserved : goal.loop-preserved
loop-preserved c =
    closing_on c.loop.invariant c.loop-test.true c.fit_byte-to.ensures

pub returns : goal.returns
returns c =
    closing_end c.loop.invariant c.loop-test.false
