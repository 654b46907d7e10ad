-- The mask so far is that of the entries passed.
use mathlib.Core.Path.{◌≡◌}
use Rattle.slice.specs.Mask.{mask_of}
use Rattle.slice.specs.Shown.{in_set}
use Rattle.slice.proofs.mask.mask_of.Given as goal

abbrev pub invariant-loop-s : goal.invariant-loop-s
invariant-loop-s l = l.mask ≡ mask_of l.s (in_set l.needed)
