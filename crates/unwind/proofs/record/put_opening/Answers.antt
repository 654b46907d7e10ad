use Rattle.write.specs.SpliceLaws.{◌then◌}
use mathlib.Core.Path.{refl}
use Rattle.unwind.proofs.Records.{closes}
use Rattle.unwind.specs.Unwind.{opening}
use Rattle.unwind.proofs.record.put_opening.Goals as goal

pub returns : goal.returns
returns c =
    closes (opening c.args.inputs) (c.open_assign-a.ensures then
    c.put_constant-b.ensures) refl c.close.ensures
