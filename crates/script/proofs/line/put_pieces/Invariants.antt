-- Each turn writes the piece of the first statement that is left (`Listing`).
use Rattle.std.proofs.Common.{length}
use Rattle.script.proofs.Pieces.{Listing}
use Rattle.script.proofs.line.put_pieces.Given as goal

abbrev pub invariant-loop-at : goal.invariant-loop-at
invariant-loop-at g l = Listing g.S.Step.part l.trace l.n l.initial.out l.to l.out (length l.yielded) l.at-iterator l.next
