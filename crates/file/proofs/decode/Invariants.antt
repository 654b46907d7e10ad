-- The invariant: the words that are passed stand at the front.
use mathlib.Core.Path.{◌≡◌}
use lib.Seq.{sets}
use Rattle.file.specs.Words.{words_of}
use Rattle.file.proofs.decode.Given as goal

abbrev pub invariant-loop-s : goal.invariant-loop-s
invariant-loop-s l = l.words ≡ sets l.initial.words 0 (words_of l.s l.bytes)
