use mathlib.Core.Path.{refl}
use Rattle.slice.specs.Shown.{in_set}
use Rattle.slice.proofs.Marks.{inside}
use Rattle.slice.proofs.sets.Symbols.contains.Goals as goal

pub bounds-self-symbol : goal.bounds-self-symbol
bounds-self-symbol c = inside _ c.requires

pub returns : goal.returns
unfolding in_set
returns c = refl
