use native.Mathlib.Omega.{arith}
use Prim.Native.Nat.{◌<◌}
use mathlib.Core.Path.{◌≡◌, sym, ap, ◌∙◌}
use lib.ListN.{length, drop}
use Rattle.expr.specs.Eval.{env_of}
use Rattle.expr.specs.Shown.{is_whole}
use Rattle.trace.specs.Shown.{symbol_room, loose, held, value_in}
use Rattle.trace.proofs.Held.{Held, held_at, acts-assign}
use Rattle.trace.proofs.Moves.{expr-whole, expr-value, assign_moves, test-fails, test-holds}
use Rattle.trace.proofs.steps.step_at.Goals as goal
use Rattle.trace.proofs.steps.step_at.Goals.{Start, After-eval_expr-value, In-Assign}

here : (c : Start) → Held symbol_room loose c.args.trace.now c.args.at
here c = held_at symbol_room loose c.args.trace.now c.args.at c.requires.2

pub stmt_at-stmt-requires : goal.stmt_at-stmt-requires
stmt_at-stmt-requires c = let h = here (goal.at.stmt_at-stmt-requires c).Start in (h.whole, h.starts)

pub eval_expr-value-requires : goal.eval_expr-value-requires
eval_expr-value-requires c =
    ap is_whole (expr-whole (here (goal.at.eval_expr-value-requires c).Start) _ c.requires.1 c.stmt_at-stmt.ensures.2)

-- the value is the expression's
is-value : (c : After-eval_expr-value)
    → c.eval_expr-value.result ≡ value_in (held (drop c.args.at c.args.trace.now)) (env_of c.args.cells.now)
is-value c =
    c.eval_expr-value.ensures
    ∙ expr-value (here (goal.at.After-eval_expr-value c).Start) (env_of c.args.cells.now) _ c.requires.1 c.stmt_at-stmt.ensures.2

below : (c : In-Assign) → c.in-Assign.symbol < length c.args.cells.now
below c =
    grind (arith, (acts-assign (here (goal.at.In-Assign c).Start) c.in-Assign.symbol (sym c.stmt_at-stmt.ensures.1 ∙ c.in-Assign.is)).1)

pub bounds-cells-symbol : goal.bounds-cells-symbol
bounds-cells-symbol c = below (goal.at.bounds-cells-symbol c).In-Assign

pub offset_bounds-cells-symbol : goal.offset_bounds-cells-symbol
offset_bounds-cells-symbol c = omega (arith, below (goal.at.offset_bounds-cells-symbol c).In-Assign)

pub returns-in-Assign : goal.returns-in-Assign
returns-in-Assign c =
    assign_moves (here (goal.at.returns-in-Assign c).Start) c.args.cells.now _
    (is-value (goal.at.returns-in-Assign c).After-eval_expr-value) c.requires.1 c.in-Assign.symbol
    (sym c.stmt_at-stmt.ensures.1 ∙ c.in-Assign.is)

pub returns-then-value-eq0 : goal.returns-then-value-eq0
returns-then-value-eq0 c =
    test-fails (here (goal.at.returns-then-value-eq0 c).Start) c.args.cells.now _
    (is-value (goal.at.returns-then-value-eq0 c).After-eval_expr-value) c.in-Test.kind
    (sym c.stmt_at-stmt.ensures.1 ∙ c.in-Test.is) c.if-value-eq0.true _ c.stmt_at-stmt.ensures.0

pub returns-else-value-eq0 : goal.returns-else-value-eq0
returns-else-value-eq0 c =
    test-holds (here (goal.at.returns-else-value-eq0 c).Start) c.args.cells.now _
    (is-value (goal.at.returns-else-value-eq0 c).After-eval_expr-value) c.in-Test.kind
    (sym c.stmt_at-stmt.ensures.1 ∙ c.in-Test.is) c.if-value-eq0.false
