use Rattle.std.proofs.Common.{◌∙◌}
use Rattle.std.proofs.lemmas.List.{length_push}
use Rattle.expr.specs.Lists.{all-at}
use Rattle.expr.specs.Number.{Byte}
use Rattle.script.proofs.Lasts.{seeking_start, seeking_turn, seeking_low, seeking_on, seeking_end}
use Rattle.script.proofs.line.last_assert.Goals as goal

pub loop-at-init : goal.loop-at-init
loop-at-init c =
    let none = c.default-noted.ensures in
    rw (none.0, none.1.0, none.1.1.0, none.1.1.1)
    (seeking_start _ _ (all-at Byte c.args.trace.now (λ i h. (c.type_inv.trace i).fits)) c.requires.0 c.requires.1
    (c.into_iter-at-iterator.ensures.into_iter_gives ∙ c.first-at-items.ensures))

pub stmt_at-requires : goal.stmt_at-requires
stmt_at-requires c =
    let here = (seeking_turn c.loop-at.invariant _ _ c.in-Some.ensures.steps).passed.here in
    (here.whole, here.starts)

pub and-noted-requires : goal.and-noted-requires
and-noted-requires c = seeking_low c.loop-at.invariant _ _ c.in-Some.ensures.steps

pub loop-at-preserved : goal.loop-at-preserved
loop-at-preserved c =
    seeking_on c.loop-at.invariant _ _ c.in-Some.ensures.steps (length_push c.loop-at.yielded _) _ c.stmt_at.ensures.1
    c.and-noted.ensures

pub returns : goal.returns
returns c = seeking_end c.loop-at.invariant c.in-None.ensures.steps.0
