-- The first line and then the statements'.
use Rattle.write.specs.SpliceLaws.{◌then◌, wrote_as}
use Rattle.show.proofs.Lines.{Told, told, told_text}
use Rattle.show.proofs.line.put_slice.Goals as goal
use Rattle.show.proofs.line.put_slice.Goals.{Start}

here : (c : Start) → Told c.args.trace.now
here c = told c.args.trace.now c.requires

pub returns : goal.returns
returns c = (
  wrote_as (told_text _ (here (goal.at.returns c).Start) c.inputs_of-inputs.result c.count_of-n.result c.inputs_of-inputs.ensures
      c.count_of-n.ensures)
      (c.put_first-a.ensures.0 then c.put_lines.ensures.0),
  c.put_lines.ensures.1,
)
