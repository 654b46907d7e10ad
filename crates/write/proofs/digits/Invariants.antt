-- Each turn leaves a smaller number in front of the digits that are counted (`Counting`).
use Rattle.write.proofs.Decimal.{Counting}
use Rattle.write.proofs.digits.Given as goal

abbrev pub invariant-loop-rest : goal.invariant-loop-rest
invariant-loop-rest l = Counting l.v l.k l.rest

abbrev pub decreases-loop-rest : goal.decreases-loop-rest
decreases-loop-rest l = l.rest
