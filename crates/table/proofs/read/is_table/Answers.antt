use mathlib.Core.Path.{refl}
use Rattle.table.specs.Table.{is_table}
use Rattle.table.proofs.read.is_table.Goals as goal

pub returns : goal.returns
unfolding is_table
returns c = refl
