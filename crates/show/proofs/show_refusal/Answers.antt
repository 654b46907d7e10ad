-- The closure writes the refusal's text.
use Rattle.std.proofs.Common.{rules, ap}
use Rattle.show.specs.Text.{refusal_text}
use Rattle.show.proofs.Whole.{fitted_as}
use Rattle.show.proofs.show_refusal.Goals as goal

pub returns-clause-text : goal.returns-clause-text
returns-clause-text c =
    fitted_as (ap (λ r. refusal_text r c.args.why.offset) c.from-reply.ensures)
    (c.show_text.ensures.text (refusal_text c.from-reply.result c.args.why.offset) (λ b n b' p. search rules))
