-- Each token adds its bytes; all of them are at most twice as many as the table has.
use Rattle.std.proofs.Common.{◌≡◌, ◌*◌, ◌≤◌, refl, ap, ◌∙◌, length, arith}
use Rattle.expr.specs.declared.File.TheVariants.{Table, Trace}
use Rattle.expr.specs.declared.token.Tokens.{Tokens}
use Rattle.expr.specs.Expr.{parse}
use Rattle.expr.specs.Shown.{tokens_left, tokens_of}
use Rattle.expr.proofs.Walks.{tokens-given, tokens-length, left-length}
use Rattle.unwind.specs.Size.{expr_size}
use Rattle.unwind.specs.Shown.{known}
use Rattle.unwind.proofs.Exprs.{little}
use Rattle.unwind.proofs.tokens.expr_size.Goals.{After-into_iter-t-iterator}
use Rattle.unwind.proofs.tokens.expr_size.Goals as goal

small : (c : After-into_iter-t-iterator) → expr_size (tokens_of (parse Table known c.args.e.now)) ≤ 2 * length c.args.e.now
small c =
    omega (
      arith,
      little (tokens_of (parse Table known c.args.e.now)),
      tokens-length Table known c.args.e.now c.requires.0 (λ i h. (c.type_inv.e i).fits),
    )

pub loop-t-init : goal.loop-t-init
loop-t-init c =
    let q = ap expr_size (ap (λ (r : Tokens). tokens_left r) c.into_iter-t-iterator.ensures.into_iter_gives
    ∙ tokens-given Table known _ c.requires.0 _ _ c.new-t-items.ensures.rest c.new-t-items.ensures.file refl) in
    omega (arith, q)

pub overflow_add-size : goal.overflow_add-size
overflow_add-size c = record {
  fits =
      grind (arith, left-length Trace c.in-Some.ensures.steps, small (goal.at.overflow_add-size c).After-into_iter-t-iterator);
}

pub loop-t-preserved : goal.loop-t-preserved
loop-t-preserved c = grind (arith, left-length Trace c.in-Some.ensures.steps)

pub returns : goal.returns
returns c =
    let q : c.loop-t.size ≡ expr_size (tokens_of (parse Table known c.args.e.now)) =
    grind (arith, ap expr_size c.in-None.ensures.steps.0) in
    (q, omega (arith, q, small (goal.at.returns c).After-into_iter-t-iterator))
