-- Each turn notes the first statement that is left (`Seeking`).
use Rattle.std.proofs.Common.{length}
use Rattle.script.proofs.Lasts.{Seeking}
use Rattle.script.proofs.line.last_assert.Given as goal

abbrev pub invariant-loop-at : goal.invariant-loop-at
invariant-loop-at l =
    Seeking l.trace l.n (length l.yielded) l.at-iterator l.noted.count l.noted.seen l.noted.statements l.noted.tests
