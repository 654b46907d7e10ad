use Rattle.std.proofs.Common.{◌∙◌}
use Rattle.kadvitul.specs.InterfaceLaws.{run-words}
use Rattle.kadvitul.proofs.run_bytes.Goals as goal

pub returns : goal.returns
returns c = c.run.ensures.answer ∙ run-words c.words_in-count.ensures c.args.rule.now c.args.bound
