-- An Assign or a test: each has its own text.
use Rattle.std.proofs.Common.{◌+◌, ◌≤◌, arith, ◌≡◌, sym, ◌∙◌, length, drop, rules}
use Rattle.expr.specs.Number.{number_of}
use Rattle.trace.specs.Shown.{symbol_room, loose}
use Rattle.trace.proofs.Held.{Held, held_at, acts-assign, acts-code, tests-code}
use Rattle.trace.proofs.Passes.{expr-is-whole, assign-length, test-length, five-bytes}
use Rattle.write.specs.SpliceLaws.{◌then◌, wrote_as}
use Rattle.show.proofs.Lines.{assign_line, test-line}
use Rattle.show.proofs.line.put_line.Goals as goal
use Rattle.show.proofs.line.put_line.Goals.{After-stmt_at-stmt, In-Assign, In-Test, Start}

here : (c : Start) → Held symbol_room loose c.args.trace.now c.args.at
here c = held_at symbol_room loose c.args.trace.now c.args.at c.requires.1

some : (c : After-stmt_at-stmt) → 5 ≤ 2 + number_of 2 (drop c.args.at c.args.trace.now)
some c = five-bytes (here (goal.at.After-stmt_at-stmt c).Start) c.stmt_at-stmt.ensures.2

assigns : (c : In-Assign) → 7 + length c.stmt_at-stmt.result.expr.now ≡ 2 + number_of 2 (drop c.args.at c.args.trace.now)
assigns c =
    assign-length (here (goal.at.In-Assign c).Start) c.stmt_at-stmt.ensures.2
    (acts-code c.args.trace.now c.args.at _ (sym c.stmt_at-stmt.ensures.1 ∙ c.in-Assign.is)).0

tests : (c : In-Test) → 5 + length c.stmt_at-stmt.result.expr.now ≡ 2 + number_of 2 (drop c.args.at c.args.trace.now)
tests c =
    test-length (here (goal.at.In-Test c).Start) c.stmt_at-stmt.ensures.2
    (tests-code c.args.trace.now c.args.at _ (sym c.stmt_at-stmt.ensures.1 ∙ c.in-Test.is)).0

pub stmt_at-stmt-requires : goal.stmt_at-stmt-requires
stmt_at-stmt-requires c = let h = here (goal.at.stmt_at-stmt-requires c).Start in (h.whole, h.starts)

pub fit_part-b-requires : goal.fit_part-b-requires
fit_part-b-requires c = search (rules, assigns (goal.at.fit_part-b-requires c).In-Assign)

pub overflow_cast-symbol : goal.overflow_cast-symbol
unfolding symbol_room
overflow_cast-symbol c =
    let small = (acts-assign (here (goal.at.overflow_cast-symbol c).Start) c.in-Assign.symbol
    (sym c.stmt_at-stmt.ensures.1 ∙ c.in-Assign.is)).1 in
    omega (arith, small)

pub fit_decimal-c-requires : goal.fit_decimal-c-requires
fit_decimal-c-requires c = search (rules, assigns (goal.at.fit_decimal-c-requires c).In-Assign)

pub put_tokens-d-requires : goal.put_tokens-d-requires
put_tokens-d-requires c = (
  expr-is-whole (here (goal.at.put_tokens-d-requires c).Start) c.stmt_at-stmt.ensures.2,
  search (rules, assigns (goal.at.put_tokens-d-requires c).In-Assign),
)

pub fit_part-requires : goal.fit_part-requires
fit_part-requires c = search (rules, assigns (goal.at.fit_part-requires c).In-Assign)

pub returns-in-Assign : goal.returns-in-Assign
returns-in-Assign c = (
  wrote_as (assign_line (here (goal.at.returns-in-Assign c).Start) c.stmt_at-stmt.ensures.2 _ _ c.stmt_at-stmt.ensures.0
      (sym c.stmt_at-stmt.ensures.1 ∙ c.in-Assign.is))
      ((((c.fit_decimal-a.ensures.0 then c.fit_part-b.ensures) then c.fit_decimal-c.ensures.0) then c.put_tokens-d.ensures.0) then
      c.fit_part.ensures),
  grind (arith, assigns (goal.at.returns-in-Assign c).In-Assign),
)

pub put_kind-b-requires : goal.put_kind-b-requires
put_kind-b-requires c = search (rules, some (goal.at.put_kind-b-requires c).After-stmt_at-stmt)

pub put_tokens-c-requires : goal.put_tokens-c-requires
put_tokens-c-requires c = (
  expr-is-whole (here (goal.at.put_tokens-c-requires c).Start) c.stmt_at-stmt.ensures.2,
  search (rules, c.put_kind-b.ensures.1, tests (goal.at.put_tokens-c-requires c).In-Test),
)

pub fit_part-requires-in-Test : goal.fit_part-requires-in-Test
fit_part-requires-in-Test c = search (rules, c.put_kind-b.ensures.1, tests (goal.at.fit_part-requires-in-Test c).In-Test)

pub returns-in-Test : goal.returns-in-Test
returns-in-Test c = (
  wrote_as (test-line (here (goal.at.returns-in-Test c).Start) c.stmt_at-stmt.ensures.2 _ _ c.stmt_at-stmt.ensures.0
      (sym c.stmt_at-stmt.ensures.1 ∙ c.in-Test.is))
      (((c.fit_decimal-a.ensures.0 then c.put_kind-b.ensures.0) then c.put_tokens-c.ensures.0) then c.fit_part-in-Test.ensures),
  grind (arith, tests (goal.at.returns-in-Test c).In-Test),
)
