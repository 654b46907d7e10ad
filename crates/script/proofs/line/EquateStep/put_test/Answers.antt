-- A test is no equation.
use Rattle.std.proofs.Common.{arith}
use Rattle.script.proofs.Letters.{wrote_none}
use Rattle.script.proofs.line.EquateStep.put_test.Goals as goal

pub returns : goal.returns
returns c = (wrote_none _ _, omega arith)
