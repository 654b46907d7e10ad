use mathlib.Core.Path.{ap, ◌∙◌}
use lib.ListN.{set}
use Rattle.file.proofs.WordsLaws.{words_store}
use Rattle.file.proofs.decode.Goals as goal

pub loop-s-preserved : goal.loop-s-preserved
loop-s-preserved c =
    ap (λ x. set x c.loop-s.s c.word_at.result) c.loop-s.invariant
    ∙ words_store c.args.words.now c.loop-s.s c.args.bytes.now c.word_at.result c.word_at.ensures
