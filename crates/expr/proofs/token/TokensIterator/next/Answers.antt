-- One token is read off the bytes that are left.
use Rattle.std.proofs.Common.{◌≡◌, List, ◌∷◌, length, refl, sym, ap, ◌∙◌, arith, eqb-true, Some}
use Rattle.expr.specs.declared.token.Token.{Token}
use Rattle.expr.specs.Token.{read_token}
use Rattle.expr.specs.Shown.{tokens_from}
use Rattle.expr.proofs.Reading.{token-inside, tokens-empty, tokens-none, tokens-some}
use Rattle.expr.proofs.token.TokensIterator.next.Goals.{In_ok-t, After-split_at}
use Rattle.expr.proofs.token.TokensIterator.next.Goals as goal

read : (c : In_ok-t) → read_token c.args.self.now.file c.args.self.now.rest.now ≡ Some c.in_ok-t.t
read c = sym c.token_at.ensures ∙ c.in_ok-t.was

steps : (c : After-split_at) → tokens_from c.args.self.now.file 0 c.args.self.now.rest.now
    ≡ c.in_ok-t.t ∷ tokens_from c.args.self.now.file 0 c.split_at.result.1.now
steps c =
    tokens-some _ _ _ (read (goal.at.After-split_at c).In_ok-t)
    ∙ ap {B = List Token} (λ bs. c.in_ok-t.t ∷ tokens_from c.args.self.now.file 0 bs)
    (sym (c.split_at.ensures.back ∙ rw c.size.ensures refl))

pub returns-then-is_empty-clause-steps : goal.returns-then-is_empty-clause-steps
returns-then-is_empty-clause-steps c =
    let e = tokens-empty c.args.self.now.file c.args.self.now.rest.now (eqb-true _ _ (sym c.is_empty.ensures ∙ c.if-is_empty.true)) in
    (e, e)

pub returns-in_err-t-clause-steps : goal.returns-in_err-t-clause-steps
returns-in_err-t-clause-steps c =
    let e = tokens-none c.args.self.now.file c.args.self.now.rest.now (sym c.token_at.ensures ∙ c.in_err-t.was) in
    rw c.from_residual.ensures (e, e)

pub split_at-requires : goal.split_at-requires
split_at-requires c = grind (arith, token-inside _ _ _ (read (goal.at.split_at-requires c).In_ok-t))

pub returns-clause-steps : goal.returns-clause-steps
returns-clause-steps c = steps (goal.at.returns-clause-steps c).After-split_at

pub returns-clause-goes : goal.returns-clause-goes
returns-clause-goes c = record {
  on = λ h. (tt, tt, omega (arith, ap length (steps (goal.at.returns-clause-goes c).After-split_at)));
  keeps = tt;
  rests = λ h. tt;
}
