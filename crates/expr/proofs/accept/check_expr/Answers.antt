-- A token that breaks its rules ends the check; another one hands it on.
use Rattle.std.proofs.Common.{◌≡◌, ℕ, Result, Err, length, sym, ap, ◌∙◌, arith, eq-eqb, ne_eqb}
use Rattle.expr.proofs.Checks.{no-token, unfit-token, fit-token, checks-end}
use Rattle.expr.proofs.accept.check_expr.Goals as goal

pub returns-in_default : goal.returns-in_default
returns-in_default c =
    sym (no-token _ _ _ _ _ c.loop-at-test.true (sym c.token_at.ensures ∙ c.in_default.is)) ∙ c.loop-at.invariant.2

pub returns-in_default-left_by : goal.returns-in_default-left_by
returns-in_default-left_by c =
    sym (unfit-token _ _ _ _ _ c.loop-at-test.true _ (sym c.token_at.ensures ∙ c.in-Some.is)
    (sym c.left_by.ensures ∙ c.in_default-left_by.is)) ∙ c.loop-at.invariant.2

pub loop-at-preserved : goal.loop-at-preserved
loop-at-preserved c =
    let f =
    fit-token _ _ _ _ _ c.loop-at-test.true _ (sym c.token_at.ensures ∙ c.in-Some.is) _ _ (sym c.left_by.ensures ∙ c.in-Some-left_by.is)
    c.size-at.ensures in
    (f.inside, f.deep, f.same ∙ c.loop-at.invariant.2)

pub returns-then-depth-eq1 : goal.returns-then-depth-eq1
returns-then-depth-eq1 c =
    sym (checks-end _ _ _ _ _ c.loop-at-test.false ∙ rw (eq-eqb _ _ c.if-depth-eq1.true)) ∙ c.loop-at.invariant.2

pub returns-else-depth-eq1 : goal.returns-else-depth-eq1
returns-else-depth-eq1 c =
    ap {B = Result (Unit {0}) ℕ} (λ n. Err n) (let q : c.loop-at.at ≡ length c.args.e.now = omega arith in q)
    ∙ sym (checks-end _ _ _ _ _ c.loop-at-test.false ∙ rw (ne_eqb _ _ c.if-depth-eq1.false))
    ∙ c.loop-at.invariant.2
