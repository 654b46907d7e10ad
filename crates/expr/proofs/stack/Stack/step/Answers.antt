-- What each kind of token pops and pushes.
use Rattle.std.proofs.Common.{ap, arith}
use Rattle.expr.specs.Expr.{pops}
use Rattle.expr.proofs.Steps.{popped, constant-steps, symbol-steps, unary-steps, binary-steps, ite-steps}
use Rattle.expr.proofs.stack.Stack.step.Goals as goal

pub returns-in-Const : goal.returns-in-Const
returns-in-Const c =
    constant-steps _ _ _ _ c.requires.long.1 c.requires.enough c.requires.room _ c.in-Const.is c.push.ensures

pub returns-in-Symbol : goal.returns-in-Symbol
returns-in-Symbol c =
    symbol-steps _ _ _ _ c.requires.long.1 c.requires.enough c.requires.room _ c.in-Symbol.is c.push-in-Symbol.ensures

pub returns-in-Un : goal.returns-in-Un
returns-in-Un c =
    unary-steps _ _ _ _ c.requires.long.1 c.requires.enough c.requires.room c.in-Un.is
    (popped _ _ _ (grind (arith, ap pops c.in-Un.is)) c.pop-a.ensures.0 c.pop-a.ensures.1) c.of.ensures
    c.push-in-Un.ensures

pub returns-in-Bin : goal.returns-in-Bin
returns-in-Bin c =
    let k = ap pops c.in-Bin.is in
    let p = popped _ _ _ (grind (arith, k)) c.pop-b.ensures.0 c.pop-b.ensures.1 in
    binary-steps _ _ _ _ c.requires.long.1 c.requires.enough c.requires.room c.in-Bin.is p
    (popped _ _ _ (grind (arith, k, p.deep)) c.pop-a-in-Bin.ensures.0 c.pop-a-in-Bin.ensures.1) c.of-in-Bin.ensures
    c.push-in-Bin.ensures

pub returns-in-Ite : goal.returns-in-Ite
returns-in-Ite c =
    let k = ap pops c.in-Ite.is in
    let p = popped _ _ _ (grind (arith, k)) c.pop-b-in-Ite.ensures.0 c.pop-b-in-Ite.ensures.1 in
    let q = popped _ _ _ (grind (arith, k, p.deep)) c.pop-a-in-Ite.ensures.0 c.pop-a-in-Ite.ensures.1 in
    ite-steps _ _ _ _ c.requires.long.1 c.requires.enough c.requires.room c.in-Ite.is p q
    (popped _ _ _ (grind (arith, k, p.deep, q.deep)) c.pop-c.ensures.0 c.pop-c.ensures.1) c.ite.ensures
    c.push-in-Ite.ensures
