use Rattle.std.proofs.Common.{tests, rules, arith, sym, ◌∙◌}
use Rattle.trace.specs.Shown.{symbol_room, loose}
use Rattle.trace.proofs.Held.{Held, held_at, acts-assign}
use Rattle.trace.proofs.Passes.{expr-is-whole}
use Rattle.slice.specs.Shown.{in_set}
use Rattle.slice.proofs.Records.{keeps-as, asserts-as, reads-marked, stepped_kept}
use Rattle.slice.proofs.back.step_back.Goals as goal
use Rattle.slice.proofs.back.step_back.Goals.{Start}

here : (c : Start) → Held symbol_room loose c.args.trace.now c.args.at
here c = held_at symbol_room loose c.args.trace.now c.args.at c.requires.4

pub stmt_at-stmt-requires : goal.stmt_at-stmt-requires
stmt_at-stmt-requires c = let h = here (goal.at.stmt_at-stmt-requires c).Start in (h.whole, h.starts)

pub keeps-requires : goal.keeps-requires
keeps-requires c x q =
    (acts-assign (here (goal.at.keeps-requires c).Start) x (sym c.stmt_at-stmt.ensures.1 ∙ q)).1

pub mark_reads-requires : goal.mark_reads-requires
mark_reads-requires c = expr-is-whole (here (goal.at.mark_reads-requires c).Start) c.stmt_at-stmt.ensures.2

pub two_at-requires : goal.two_at-requires
two_at-requires c = omega (arith, (here (goal.at.two_at-requires c).Start).whole)

pub returns-then-keeps : goal.returns-then-keeps
returns-then-keeps c =
    let h = here (goal.at.returns-then-keeps c).Start in
    stepped_kept h c.args.k c.args.behind c.args.kept.now (in_set c.args.needed.now) _
    (c.keeps.ensures ∙ keeps-as h _ c.stmt_at-stmt.ensures.1 _ _) c.if-keeps.true
    _ (reads-marked h c.stmt_at-stmt.ensures.2 _ _ c.mark_reads.ensures)
    _ (let a = asserts-as h _ c.stmt_at-stmt.ensures.1 in search (tests, rules)) _ c.two_at.ensures.0

pub returns : goal.returns
returns c =
    let h = here (goal.at.returns c).Start in
    let k = keeps-as h _ c.stmt_at-stmt.ensures.1 c.args.behind.asserts (in_set c.args.needed.now) in
    search (tests, rules)
