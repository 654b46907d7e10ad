use Rattle.std.proofs.Common.{arith}
use Rattle.file.specs.File.{input_room}
use Rattle.kadvitul.specs.InterfaceLaws.{no_words, all_words}
use Rattle.kadvitul.proofs.words_in.Goals as goal

pub returns-then-len-count : goal.returns-then-len-count
unfolding input_room
returns-then-len-count c = no_words c.requires (λ k l e. omega (arith, c.if-len-count.true))

pub returns-then-count-gt-INPUT_ROOM : goal.returns-then-count-gt-INPUT_ROOM
unfolding input_room
returns-then-count-gt-INPUT_ROOM c = no_words c.requires (λ k l e. omega arith)

pub returns : goal.returns
unfolding input_room
returns c =
    all_words c.args.words.now
    c.requires _ c.decode.ensures (omega arith)
    c.if-len-count.false
