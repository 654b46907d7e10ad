-- The digits are stored from the last to the first; those still to be stored are the last ones of what is left (`Storing`).
use Rattle.write.proofs.Decimal.{Storing}
use Rattle.write.proofs.fit_digits.Given as goal

abbrev pub invariant-loop-i : goal.invariant-loop-i
invariant-loop-i l = Storing l.v l.initial.out l.at l.k l.out l.i l.rest
