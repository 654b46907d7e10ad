-- Each turn writes the two digits of the first byte that is left.
use Rattle.std.proofs.Common.{◌+◌, ◌*◌, ◌≤◌, drop}
use Rattle.write.specs.SpliceLaws.{Ahead}
use Rattle.script.proofs.Letters.{pairs}
use Rattle.script.proofs.text.put_hex.Given as goal

abbrev pub invariant-loop-b : goal.invariant-loop-b
invariant-loop-b l =
    Ahead l.out l.to (pairs (drop l.b-index l.b-items)) l.initial.out l.initial.to (pairs l.b-items)
    × (l.to ≤ l.initial.to + 2 * l.b-index)
