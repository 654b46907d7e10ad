-- Each turn writes the line of the first statement that is left (`Listing`).
use Rattle.std.proofs.Common.{length}
use Rattle.show.proofs.Lines.{Listing}
use Rattle.show.proofs.line.put_lines.Given as goal

abbrev pub invariant-loop-at : goal.invariant-loop-at
invariant-loop-at l = Listing l.trace l.n l.initial.out l.to l.out (length l.yielded) l.at-iterator l.next
