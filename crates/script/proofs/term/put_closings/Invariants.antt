-- What is written and the parentheses that are left make all of them (`Closing`).
use Rattle.script.proofs.Letters.{Closing}
use Rattle.script.proofs.term.put_closings.Given as goal

abbrev pub invariant-loop : goal.invariant-loop
invariant-loop l = Closing l.n l.initial.out l.at l.out l.counter l.to
