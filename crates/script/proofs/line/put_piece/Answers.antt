-- An Assign or a test: what it adds, or nothing.
use Rattle.std.proofs.Common.{arith, sym, ◌∙◌}
use Rattle.trace.specs.Shown.{symbol_room, loose}
use Rattle.trace.proofs.Held.{Held, held_at, acts-assign, acts-code, tests-code}
use Rattle.trace.proofs.Passes.{expr-is-whole, assign-length, test-length}
use Rattle.write.specs.SpliceLaws.{wrote_as}
use Rattle.script.proofs.Pieces.{assign-piece, test-piece}
use Rattle.script.proofs.line.put_piece.Given.{Over}
use Rattle.script.proofs.line.put_piece.Goals as goal
use Rattle.script.proofs.line.put_piece.Goals.{Start}

here : (g : Over) (c : Start g) → Held symbol_room loose c.args.trace.now c.args.at
here g c = held_at symbol_room loose c.args.trace.now c.args.at c.requires.1

pub stmt_at-stmt-requires : goal.stmt_at-stmt-requires
stmt_at-stmt-requires g c = let h = here g (goal.at.stmt_at-stmt-requires g c).Start in (h.whole, h.starts)

pub put_assign-requires : goal.put_assign-requires
unfolding symbol_room
put_assign-requires g c =
    let h = here g (goal.at.put_assign-requires g c).Start in
    let acts = sym c.stmt_at-stmt.ensures.1 ∙ c.in-Assign.is in
    let small = (acts-assign h _ acts).1 in (
      omega (arith, small),
      expr-is-whole h c.stmt_at-stmt.ensures.2,
      grind (arith, assign-length h c.stmt_at-stmt.ensures.2 (acts-code c.args.trace.now c.args.at _ acts).0),
    )

pub returns-in-Assign : goal.returns-in-Assign
returns-in-Assign g c =
    let h = here g (goal.at.returns-in-Assign g c).Start in
    let acts = sym c.stmt_at-stmt.ensures.1 ∙ c.in-Assign.is in (
      wrote_as (assign-piece h c.stmt_at-stmt.ensures.2 _ acts) c.put_assign.ensures.0,
      grind (arith, assign-length h c.stmt_at-stmt.ensures.2 (acts-code c.args.trace.now c.args.at _ acts).0),
    )

pub put_test-requires : goal.put_test-requires
put_test-requires g c =
    let h = here g (goal.at.put_test-requires g c).Start in
    let acts = sym c.stmt_at-stmt.ensures.1 ∙ c.in-Test.is in (
      expr-is-whole h c.stmt_at-stmt.ensures.2,
      grind (arith, test-length h c.stmt_at-stmt.ensures.2 (tests-code c.args.trace.now c.args.at _ acts).0),
    )

pub returns-in-Test : goal.returns-in-Test
returns-in-Test g c =
    let h = here g (goal.at.returns-in-Test g c).Start in
    let acts = sym c.stmt_at-stmt.ensures.1 ∙ c.in-Test.is in (
      wrote_as (test-piece h c.stmt_at-stmt.ensures.2 _ acts) c.put_test.ensures.0,
      grind (arith, test-length h c.stmt_at-stmt.ensures.2 (tests-code c.args.trace.now c.args.at _ acts).0),
    )
