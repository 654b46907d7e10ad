-- Each token is written where the one before it ends.
use Rattle.std.proofs.Common.{◌≡◌, length, refl, ap, ◌∙◌, arith}
use Rattle.expr.specs.declared.File.TheVariants.{Trace}
use Rattle.expr.specs.declared.token.Tokens.{Tokens}
use Rattle.expr.specs.Token.{expr_bytes}
use Rattle.expr.specs.Expr.{below, parse}
use Rattle.expr.specs.Shown.{tokens_left, tokens_of}
use Rattle.expr.proofs.Walks.{tokens-given, tokens-length}
use Rattle.trace.specs.Shown.{symbol_room}
use Rattle.show.proofs.Exprs.{putting_start, putting_room, putting_known, put_on, put_all}
use Rattle.show.proofs.word.put_tokens.Goals.{After-into_iter-t-iterator}
use Rattle.show.proofs.word.put_tokens.Goals as goal

bytes : (c : After-into_iter-t-iterator)
    → length (expr_bytes Trace (tokens_of (parse Trace (below symbol_room) c.args.e.now))) ≡ length c.args.e.now
bytes c = tokens-length Trace (below symbol_room) c.args.e.now c.requires.0 (λ i h. (c.type_inv.e i).fits)

pub loop-t-init : goal.loop-t-init
loop-t-init c =
    putting_start c.args.e.now c.args.out.now c.args.at _ c.requires.0
    (ap (λ (r : Tokens). tokens_left r) c.into_iter-t-iterator.ensures.into_iter_gives
    ∙ tokens-given Trace _ _ c.requires.0 _ _ c.new-t-items.ensures.rest c.new-t-items.ensures.file refl)

pub put_token-to-requires : goal.put_token-to-requires
put_token-to-requires c = (
  putting_known c.loop-t.invariant c.in-Some.ensures.steps,
  putting_room c.loop-t.invariant c.in-Some.ensures.steps
      (grind (arith, bytes (goal.at.put_token-to-requires c).After-into_iter-t-iterator)),
)

pub loop-t-preserved : goal.loop-t-preserved
loop-t-preserved c = put_on c.loop-t.invariant c.in-Some.ensures.steps c.put_token-to.ensures.0 c.put_token-to.ensures.1

pub returns : goal.returns
returns c =
    let k = put_all c.loop-t.invariant c.in-None.ensures.steps.0 in
    (k.0, omega (arith, k.1, bytes (goal.at.returns c).After-into_iter-t-iterator))
