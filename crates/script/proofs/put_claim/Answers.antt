use Rattle.std.proofs.Common.{arith}
use Rattle.write.specs.SpliceLaws.{◌then◌, wrote_as}
use Rattle.script.proofs.Wholes.{claims, claim_are}
use Rattle.script.proofs.put_claim.Goals as goal

pub returns : goal.returns
returns c = (
  wrote_as (claim_are _ _ _ c.last_assert-last.ensures.0 c.last_assert-last.ensures.1)
      (((c.fit_part-a.ensures then c.put_pieces-b.ensures.0) then c.fit_part-c.ensures) then c.put_closings.ensures.0),
  grind (arith, claims),
)
