-- A claim has nothing of an Assign.
use Rattle.std.proofs.Common.{arith}
use Rattle.script.proofs.Letters.{wrote_none}
use Rattle.script.proofs.line.ClaimStep.put_assign.Goals as goal

pub returns : goal.returns
returns c = (wrote_none _ _, omega arith)
