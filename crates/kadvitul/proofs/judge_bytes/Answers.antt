use Rattle.std.proofs.Common.{◌∙◌}
use Rattle.kadvitul.specs.InterfaceLaws.{judge-words}
use Rattle.kadvitul.proofs.judge_bytes.Goals as goal

pub returns : goal.returns
returns c = c.judge.ensures.answer ∙ judge-words c.words_in-count.ensures c.args.trace.now
