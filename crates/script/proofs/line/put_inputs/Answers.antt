use Rattle.std.proofs.Common.{arith}
use Rattle.file.proofs.FileLaws.{symbols_in_two-bytes}
use Rattle.script.proofs.Pieces.{declaring_start, declaring_on, declaring_end}
use Rattle.script.proofs.line.put_inputs.Goals as goal

pub loop-k-init : goal.loop-k-init
loop-k-init c = declaring_start _ _ _

pub put_declaration-to-requires : goal.put_declaration-to-requires
put_declaration-to-requires c = (grind (arith, symbols_in_two-bytes), grind (arith, symbols_in_two-bytes))

pub loop-k-preserved : goal.loop-k-preserved
loop-k-preserved c =
    declaring_on c.loop-k.invariant c.loop-k-test.true c.put_declaration-to.ensures

pub returns : goal.returns
returns c =
    declaring_end c.loop-k.invariant c.loop-k-test.false c.requires.0
