-- The invariant: the check of the rest, from the depth that is reached, answers what the check of the whole does. Each turn leaves fewer
-- bytes.
use Rattle.std.proofs.Common.{◌≡◌, ◌-◌, ◌≤◌, length, drop}
use Rattle.expr.specs.Expr.{depth_limit, readable, parse_from, parse}
use Rattle.expr.specs.Shown.{checked}
use Rattle.expr.proofs.accept.check_expr.Given as goal

abbrev pub invariant-loop-at : goal.invariant-loop-at
invariant-loop-at l =
    (l.at ≤ length l.e)
    × (l.depth ≤ depth_limit l.file)
    × (checked (length l.e) (parse_from l.file (readable l.inputs l.assigned) l.depth 0 (drop l.at l.e)) ≡ checked (length l.e)
    (parse l.file (readable l.inputs l.assigned) l.e))

abbrev pub decreases-loop-at : goal.decreases-loop-at
decreases-loop-at l = length l.e - l.at
