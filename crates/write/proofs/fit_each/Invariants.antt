-- As far as the loop has come, the part's bytes are stored.
use Rattle.std.proofs.Common.{◌+◌, take}
use Rattle.write.specs.Splice.{Wrote}
use Rattle.write.proofs.fit_each.Given as goal

abbrev pub invariant-loop-i : goal.invariant-loop-i
invariant-loop-i l = Wrote l.initial.out l.at (take l.i l.part) l.out (l.at + l.i)
