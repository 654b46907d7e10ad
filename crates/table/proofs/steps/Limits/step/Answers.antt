use native.Mathlib.Omega.{arith}
use mathlib.Core.Path.{◌≡◌, sym, ap, ◌∙◌}
use Prim.Native.Nat.{◌<◌}
use lib.ListN.{length, drop}
use Rattle.expr.specs.Eval.{env_of}
use Rattle.expr.specs.Shown.{is_whole}
use Rattle.file.specs.File.{record_of}
use Rattle.table.specs.Table.{instr}
use Rattle.table.specs.Shown.{value_in}
use Rattle.table.proofs.Held.{Held, held_at}
use Rattle.table.proofs.Moves.{expr-whole, expr-value, assign_moves, goto_stays, goto_jumps, test-fails, test-holds}
use Rattle.table.proofs.steps.Limits.step.Goals as goal
use Rattle.table.proofs.steps.Limits.step.Goals.{Start, After-eval_expr-value, In-Assign}

held : (c : Start) → Held (length c.args.vals.now) c.args.self.n c.args.table.now c.args.at
held c = held_at (length c.args.vals.now) c.args.self.n c.args.table.now c.args.at c.requires.5

pub instr_at-instr-requires : goal.instr_at-instr-requires
instr_at-instr-requires c = let h = held (goal.at.instr_at-instr-requires c).Start in (h.whole, h.starts)

pub eval_expr-value-requires : goal.eval_expr-value-requires
eval_expr-value-requires c =
    ap is_whole (expr-whole (held (goal.at.eval_expr-value-requires c).Start) c.instr_at-instr.ensures.1)

-- the value is the expression's
is-value : (c : After-eval_expr-value) → c.eval_expr-value.result
    ≡ value_in (record_of (instr (length c.args.vals.now) c.args.self.n) (drop c.args.at c.args.table.now)) (env_of c.args.vals.now)
is-value c =
    c.eval_expr-value.ensures
    ∙ expr-value (held (goal.at.After-eval_expr-value c).Start) (env_of c.args.vals.now) c.instr_at-instr.ensures.1

below : (c : In-Assign) → c.in-Assign.symbol < length c.args.vals.now
below c =
    let h = held (goal.at.In-Assign c).Start in
    h.symbols c.in-Assign.symbol (sym h.acts ∙ sym c.instr_at-instr.ensures.0 ∙ c.in-Assign.is)

pub bounds-vals-symbol : goal.bounds-vals-symbol
bounds-vals-symbol c = below (goal.at.bounds-vals-symbol c).In-Assign

pub offset_bounds-vals-symbol : goal.offset_bounds-vals-symbol
offset_bounds-vals-symbol c = omega (arith, below (goal.at.offset_bounds-vals-symbol c).In-Assign)

pub returns-in-Assign : goal.returns-in-Assign
returns-in-Assign c =
    assign_moves c.args.vals.now (held (goal.at.returns-in-Assign c).Start) c.args.self.bound c.args.spot.i c.args.spot.r _
    (is-value (goal.at.returns-in-Assign c).After-eval_expr-value) c.in-Assign.symbol (sym c.instr_at-instr.ensures.0 ∙ c.in-Assign.is)

pub returns-then-value-eq0 : goal.returns-then-value-eq0
returns-then-value-eq0 c =
    test-fails c.args.vals.now (held (goal.at.returns-then-value-eq0 c).Start) c.args.self.bound c.args.spot.i c.args.spot.r _
    (is-value (goal.at.returns-then-value-eq0 c).After-eval_expr-value) c.in-Test.kind (sym c.instr_at-instr.ensures.0 ∙ c.in-Test.is)
    c.if-value-eq0.true c.failure.result c.failure.ensures

pub returns-else-value-eq0 : goal.returns-else-value-eq0
returns-else-value-eq0 c =
    test-holds c.args.vals.now (held (goal.at.returns-else-value-eq0 c).Start) c.args.self.bound c.args.spot.i c.args.spot.r _
    (is-value (goal.at.returns-else-value-eq0 c).After-eval_expr-value) c.in-Test.kind (sym c.instr_at-instr.ensures.0 ∙ c.in-Test.is)
    c.if-value-eq0.false

pub returns-then-value-eq0-2 : goal.returns-then-value-eq0-2
returns-then-value-eq0-2 c =
    goto_stays c.args.vals.now (held (goal.at.returns-then-value-eq0-2 c).Start) c.args.self.bound c.args.spot.i c.args.spot.r _
    (is-value (goal.at.returns-then-value-eq0-2 c).After-eval_expr-value) c.in-Goto.target (sym c.instr_at-instr.ensures.0 ∙ c.in-Goto.is)
    c.if-value-eq0-2.true

pub returns-else-value-eq0-2 : goal.returns-else-value-eq0-2
returns-else-value-eq0-2 c =
    goto_jumps c.args.vals.now (held (goal.at.returns-else-value-eq0-2 c).Start) c.args.self.bound c.args.spot.i c.args.spot.r _
    (is-value (goal.at.returns-else-value-eq0-2 c).After-eval_expr-value) c.in-Goto.target (sym c.instr_at-instr.ensures.0 ∙ c.in-Goto.is)
    c.if-value-eq0-2.false _ (c.jump.ensures (env_of c.args.vals.now))
