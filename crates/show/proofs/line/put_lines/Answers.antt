use Rattle.std.proofs.Common.{◌∙◌}
use Rattle.std.proofs.lemmas.List.{length_push}
use Rattle.expr.specs.Lists.{all-at}
use Rattle.expr.specs.Number.{Byte}
use Rattle.show.proofs.Lines.{listing_start, listing_low, listing_good, listing_room, listing_on, listing_end}
use Rattle.show.proofs.line.put_lines.Goals as goal

pub loop-at-init : goal.loop-at-init
loop-at-init c =
    listing_start _ _ _ _ (all-at Byte c.args.trace.now (λ i h. (c.type_inv.trace i).fits)) c.requires.0 c.requires.1 c.requires.2
    (c.into_iter-at-iterator.ensures.into_iter_gives ∙ c.first-at-items.ensures)

pub put_line-next-requires : goal.put_line-next-requires
put_line-next-requires c =
    let v = c.loop-at.invariant in
    let e = c.in-Some.ensures.steps in
    (listing_low v _ _ e, listing_good v _ _ e, listing_room v _ _ e)

pub loop-at-preserved : goal.loop-at-preserved
loop-at-preserved c =
    listing_on c.loop-at.invariant _ _ c.in-Some.ensures.steps (length_push c.loop-at.yielded _) c.put_line-next.ensures

pub returns : goal.returns
returns c = listing_end c.loop-at.invariant c.in-None.ensures.steps.0
