use Rattle.std.proofs.Common.{arith}
use Rattle.trace.proofs.Passes.{known}
use Rattle.write.specs.SpliceLaws.{◌then◌, wrote_as}
use Rattle.script.proofs.Wholes.{script_parts}
use Rattle.script.proofs.put_script.Goals as goal

pub count_of-n-requires : goal.count_of-n-requires
count_of-n-requires c = (known c.args.trace.now c.requires).long

pub returns : goal.returns
returns c = (
  wrote_as (script_parts (known c.args.trace.now c.requires)) ((c.put_definitions-a.ensures.0 then c.put_claim-b.ensures.0)
      then c.fit_part.ensures),
  grind arith,
)
