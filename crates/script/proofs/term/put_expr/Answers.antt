-- Each token's binding stands behind the one before it; then x0, and a parenthesis for each.
use Rattle.std.proofs.Common.{◌≡◌, ◌≤◌, length, refl, ap, ◌∙◌, arith}
use Rattle.expr.specs.declared.File.TheVariants.{Trace}
use Rattle.expr.specs.declared.token.Tokens.{Tokens}
use Rattle.expr.specs.Token.{expr_bytes}
use Rattle.expr.specs.Expr.{below, parse}
use Rattle.expr.specs.Shown.{tokens_left, tokens_of}
use Rattle.expr.proofs.Walks.{tokens-given, tokens-length, tokens-few}
use Rattle.trace.specs.Shown.{symbol_room}
use Rattle.script.proofs.Terms.{putting_start, putting_fits, fit, putting_more, put_on, put_all}
use Rattle.script.proofs.term.put_expr.Goals.{After-into_iter-t-iterator}
use Rattle.script.proofs.term.put_expr.Goals as goal

bytes : (c : After-into_iter-t-iterator)
    → length (expr_bytes Trace (tokens_of (parse Trace (below symbol_room) c.args.e.now))) ≡ length c.args.e.now
bytes c = tokens-length Trace (below symbol_room) c.args.e.now c.requires.0 (λ i h. (c.type_inv.e i).fits)

few : (c : After-into_iter-t-iterator) → length (tokens_of (parse Trace (below symbol_room) c.args.e.now)) ≤ length c.args.e.now
few c = omega (arith, bytes c, tokens-few Trace (tokens_of (parse Trace (below symbol_room) c.args.e.now)))

pub loop-t-init : goal.loop-t-init
loop-t-init c =
    putting_start c.args.e.now c.args.out.now c.args.at _ c.requires.0
    (ap (λ (r : Tokens). tokens_left r) c.into_iter-t-iterator.ensures.into_iter_gives
    ∙ tokens-given Trace _ _ c.requires.0 _ _ c.new-t-items.ensures.rest c.new-t-items.ensures.file refl)

pub put_token-to-requires : goal.put_token-to-requires
put_token-to-requires c =
    let v = c.loop-t.invariant in
    let e = c.in-Some.ensures.steps in
    (putting_fits v e, grind (arith, few (goal.at.put_token-to-requires c).After-into_iter-t-iterator, putting_more v e))

pub overflow_sub-depth : goal.overflow_sub-depth
overflow_sub-depth c = grind (arith, (fit c.loop-t.invariant c.in-Some.ensures.steps).enough)

pub overflow_add-count : goal.overflow_add-count
overflow_add-count c = record {
  fits =
      grind (arith, few (goal.at.overflow_add-count c).After-into_iter-t-iterator, putting_more c.loop-t.invariant c.in-Some.ensures.steps);
}

pub loop-t-preserved : goal.loop-t-preserved
loop-t-preserved c = put_on c.loop-t.invariant c.in-Some.ensures.steps (grind arith) c.put_token-to.ensures

pub put_name-a-requires : goal.put_name-a-requires
put_name-a-requires c = (omega arith, grind (arith, few (goal.at.put_name-a-requires c).After-into_iter-t-iterator))

pub put_closings-requires : goal.put_closings-requires
put_closings-requires c = grind (arith, few (goal.at.put_closings-requires c).After-into_iter-t-iterator)

pub returns : goal.returns
returns c =
    let k = put_all c.loop-t.invariant c.in-None.ensures.steps.0 c.put_name-a.ensures c.put_closings.ensures in
    (k.0, grind (arith, bytes (goal.at.returns c).After-into_iter-t-iterator))
