use Rattle.std.proofs.Common.{arith}
use Rattle.trace.proofs.Passes.{known}
use Rattle.write.specs.SpliceLaws.{◌then◌, wrote_as}
use Rattle.script.proofs.Wholes.{definitions, definitions_are}
use Rattle.script.proofs.put_definitions.Goals as goal

pub inputs_of-requires : goal.inputs_of-requires
inputs_of-requires c = (known c.args.trace.now c.requires.0).long

pub put_inputs-b-requires : goal.put_inputs-b-requires
put_inputs-b-requires c =
    let entry = known c.args.trace.now c.requires.0 in
    (grind (arith, entry.inputs, entry.few-inputs), grind arith)

pub returns : goal.returns
returns c = (
  wrote_as (definitions_are (known c.args.trace.now c.requires.0) _ _ c.inputs_of.ensures c.requires.1)
      (((c.fit_part-a.ensures then c.put_inputs-b.ensures.0) then c.put_pieces-c.ensures.0) then c.put_pieces.ensures.0),
  grind (arith, definitions),
)
