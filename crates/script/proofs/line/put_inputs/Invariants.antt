-- Each turn declares the first input that is left (`Declaring`).
use Rattle.script.proofs.Pieces.{Declaring}
use Rattle.script.proofs.line.put_inputs.Given as goal

abbrev pub invariant-loop-k : goal.invariant-loop-k
invariant-loop-k l = Declaring l.n l.initial.out l.at l.out l.k l.to
