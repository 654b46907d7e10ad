-- Each token marks what it reads.
use Rattle.std.proofs.Common.{refl, ap, ◌∙◌}
use Rattle.expr.specs.declared.File.TheVariants.{Trace}
use Rattle.expr.specs.declared.token.Tokens.{Tokens}
use Rattle.expr.specs.Shown.{tokens_left}
use Rattle.expr.proofs.Walks.{tokens-given}
use Rattle.slice.specs.Shown.{in_set}
use Rattle.slice.proofs.Reading.{marking_start, marking_known, mark_on, all-marked}
use Rattle.slice.proofs.reads.mark_reads.Goals as goal

pub loop-t-init : goal.loop-t-init
loop-t-init c =
    marking_start c.args.e.now (in_set c.args.needed.now) _ c.requires
    (ap (λ (r : Tokens). tokens_left r) c.into_iter-t-iterator.ensures.into_iter_gives
    ∙ tokens-given Trace _ _ c.requires _ _ c.new-t-items.ensures.rest c.new-t-items.ensures.file refl)

pub mark_token-requires : goal.mark_token-requires
mark_token-requires c = marking_known c.loop-t.invariant c.in-Some.ensures.steps

pub loop-t-preserved : goal.loop-t-preserved
loop-t-preserved c = mark_on c.loop-t.invariant c.in-Some.ensures.steps c.mark_token.ensures

pub returns : goal.returns
returns c = all-marked c.loop-t.invariant c.in-None.ensures.steps.0
