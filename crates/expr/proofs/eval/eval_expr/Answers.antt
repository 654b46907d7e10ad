-- A turn steps by the token that the iterator gives; the end leaves the value on top.
use Rattle.std.proofs.Common.{refl, sym, ap, ◌∙◌, subst, length, arith}
use Rattle.expr.specs.declared.token.Tokens.{Tokens}
use Rattle.expr.specs.Expr.{below, depth_limit}
use Rattle.expr.specs.Shown.{tokens_left}
use Rattle.expr.proofs.ExprLaws.{Fits, depth_limit_le}
use Rattle.expr.proofs.Walks.{tokens-given}
use Rattle.expr.proofs.Evals.{Evaluating, start, fit, on, last}
use Rattle.expr.proofs.eval.eval_expr.Goals.{In-Some, In-None}
use Rattle.expr.proofs.eval.eval_expr.Goals as goal

fits : (c : In-Some) → Fits (below (length c.args.vals.now)) (depth_limit c.args.file) c.loop-t.s.depth c.in-Some.t
fits c = fit _ _ _ _ _ _ (subst (Evaluating _ _ _ c.loop-t.s) c.in-Some.ensures.steps c.loop-t.invariant)

pub loop-t-init : goal.loop-t-init
loop-t-init c =
    subst (Evaluating _ _ _ c.new-s.result) (sym (ap (λ (r : Tokens). tokens_left r) c.into_iter-t-iterator.ensures.into_iter_gives
    ∙ tokens-given _ _ _ c.requires _ _ c.new-t-items.ensures.rest c.new-t-items.ensures.file refl))
    (start _ _ _ _ c.new-s.ensures c.requires)

pub step-requires-clause-enough : goal.step-requires-clause-enough
step-requires-clause-enough c = (fits (goal.at.step-requires-clause-enough c).In-Some).enough

pub step-requires-clause-room : goal.step-requires-clause-room
step-requires-clause-room c =
    omega (arith, (fits (goal.at.step-requires-clause-room c).In-Some).room, depth_limit_le c.args.file)

pub step-requires-clause-known : goal.step-requires-clause-known
step-requires-clause-known c = (fits (goal.at.step-requires-clause-known c).In-Some).known

pub loop-t-preserved : goal.loop-t-preserved
loop-t-preserved c =
    on _ _ _ _ _ _ _ (subst (Evaluating _ _ _ c.loop-t.s) c.in-Some.ensures.steps c.loop-t.invariant) c.step.ensures

pub returns : goal.returns
returns c =
    c.pop.ensures.0 ∙ (last _ _ _ _ (subst (Evaluating _ _ _ c.loop-t.s) c.in-None.ensures.steps.0 c.loop-t.invariant)).1
