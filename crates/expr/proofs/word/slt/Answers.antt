-- The order of raised words is the signed order (`slt_raised`).
use Rattle.std.proofs.Common.{sym, ap, ◌∙◌, arith, le-ltb, lt-ltb}
use Rattle.expr.specs.Word.{test}
use Rattle.expr.specs.WordLaws.{raised, slt_raised}
use Rattle.expr.proofs.word.slt.Goals as goal

pub returns-then-x-y : goal.returns-then-x-y
returns-then-x-y c =
    let a = c.args in
    sym (slt_raised 32 a.a a.b (omega arith) (omega arith) (omega arith)
    ∙ ap test (lt-ltb (raised 32 a.a) (raised 32 a.b) (omega arith)))

pub returns-else-x-y : goal.returns-else-x-y
returns-else-x-y c =
    let a = c.args in
    sym (slt_raised 32 a.a a.b (omega arith) (omega arith) (omega arith)
    ∙ ap test (le-ltb (raised 32 a.a) (raised 32 a.b) (omega arith)))
