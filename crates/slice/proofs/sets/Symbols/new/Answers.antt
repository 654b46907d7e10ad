use Rattle.slice.proofs.Marks.{in_clear}
use Rattle.slice.proofs.sets.Symbols.new.Goals as goal

pub returns : goal.returns
returns c = in_clear 65
