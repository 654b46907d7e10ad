-- The text is measured, and then written where it fits.
use Rattle.show.proofs.Whole.{no_room, written}
use Rattle.show.proofs.show_text.Goals as goal

pub returns-clause-text : goal.returns-clause-text
returns-clause-text g c =
    λ text puts. written (puts _ _ _ c.put-size.ensures) _ c.if-out-size.false (puts _ _ _ c.put.ensures)
