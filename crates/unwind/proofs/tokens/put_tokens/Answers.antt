-- Each token is written where the one before it ends.
use Rattle.std.proofs.Common.{refl, ap, ◌∙◌}
use Rattle.expr.specs.declared.File.TheVariants.{Table}
use Rattle.expr.specs.declared.token.Tokens.{Tokens}
use Rattle.expr.specs.Shown.{tokens_left}
use Rattle.expr.proofs.Walks.{tokens-given}
use Rattle.unwind.proofs.Exprs.{putting_start, putting_room, putting_known, put_on, put_all}
use Rattle.unwind.proofs.tokens.put_tokens.Goals as goal

pub loop-t-init : goal.loop-t-init
loop-t-init c =
    putting_start c.args.names.now c.args.e.now c.args.out.now c.args.at _ c.requires.0
    (ap (λ (r : Tokens). tokens_left r) c.into_iter-t-iterator.ensures.into_iter_gives
    ∙ tokens-given Table _ _ c.requires.0 _ _ c.new-t-items.ensures.rest c.new-t-items.ensures.file refl)

pub put_token-to-requires-clause-known : goal.put_token-to-requires-clause-known
put_token-to-requires-clause-known c = putting_known _ c.loop-t.invariant c.in-Some.ensures.steps

pub put_token-to-requires-clause-room : goal.put_token-to-requires-clause-room
put_token-to-requires-clause-room c = putting_room _ c.loop-t.invariant c.in-Some.ensures.steps c.requires.1

pub loop-t-preserved : goal.loop-t-preserved
loop-t-preserved c = put_on _ c.loop-t.invariant c.in-Some.ensures.steps c.put_token-to.ensures

pub returns : goal.returns
returns c = put_all _ c.loop-t.invariant c.in-None.ensures.steps.0
