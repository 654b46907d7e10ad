-- The evaluator's loop: the value of the tokens that are left, from the stack that is reached, is the value of the whole.
use Rattle.std.proofs.Common.{◌≡◌, ℕ, ◌<◌, ◌≤◌, true, List, [], ◌∷◌, length, refl, sym, ap, ◌∙◌, subst, arith}
use Rattle.expr.specs.declared.File.{File}
use Rattle.expr.specs.declared.stack.Stack.{Stack}
use Rattle.expr.specs.Stack.{empty_stack, top_of}
use Rattle.expr.specs.declared.token.Token.{Token}
use Rattle.expr.specs.Expr.{below, depth_limit, Parsed, Whole, Breaks, parse, Ok}
use Rattle.expr.specs.Eval.{Env, env_of, eval, top}
use Rattle.expr.specs.Shown.{is_whole, tokens_of, stack_of, held, Stepped, value_of}
use Rattle.expr.proofs.ExprLaws.{depth_limit_le, Fits, fits-is}
use Rattle.expr.proofs.Steps.{popped}
use Rattle.expr.proofs.Walks.{tokens-ok}

value-is : (ρ : Env) (p : Parsed) → is_whole p ≡ true → top (eval ρ (tokens_of p) []) ≡ value_of ρ p
value-is ρ (Whole e) h = refl
value-is ρ (Breaks bs) h = absurd (let z : ◌≡◌ {A = ℕ} 0 1 = cc in omega arith)

module _ (F : File) (vals e : List ℕ) where
  pub record Evaluating (s : Stack) (rest : List Token) : Type 0 where
    pub ok : Ok (below (length vals)) (depth_limit F) s.depth 1 rest
    pub deep : s.depth ≤ 17
    pub long : length s.words ≡ 17
    pub same : top (eval (env_of vals) rest (held s)) ≡ value_of (env_of vals) (parse F (below (length vals)) e)

  pub start : (s : Stack) → s ≡ empty_stack → is_whole (parse F (below (length vals)) e) ≡ true
      → Evaluating s (tokens_of (parse F (below (length vals)) e))
  unfolding stack_of empty_stack
  start s q h =
      subst (λ (t : Stack). Evaluating t (tokens_of (parse F (below (length vals)) e))) (sym q) (record {
        ok = tokens-ok F (below (length vals)) e h;
        deep = omega arith;
        long = refl;
        same = value-is (env_of vals) (parse F (below (length vals)) e) h;
      })

  module _ (s : Stack) where
    -- the next token may stand where it stands
    pub fit : (t : Token) (rest : List Token) → Evaluating s (t ∷ rest) → Fits (below (length vals)) (depth_limit F) s.depth t
    fit t rest v = fits-is (below (length vals)) (depth_limit F) s.depth t v.ok.0

    pub on : (s' : Stack) (t : Token) (rest : List Token) → Evaluating s (t ∷ rest) → Stepped (env_of vals) t s s' → Evaluating s' rest
    on s' t rest v k = record {
      ok = subst (λ d. Ok (below (length vals)) (depth_limit F) d 1 rest) (sym k.deep) v.ok.1;
      deep = omega (arith, k.deep, (fit t rest v).room, depth_limit_le F);
      long = k.long ∙ v.long;
      same = ap (λ st. top (eval (env_of vals) rest st)) k.words ∙ v.same;
    }

    -- in the end one word is left, the value
    pub last : Evaluating s [] → (s.depth ≡ 1) × (top_of s ≡ value_of (env_of vals) (parse F (below (length vals)) e))
    last v =
        let p = popped s _ _ (let k : 0 < s.depth = let d : s.depth ≡ 1 = v.ok in omega arith in k) refl refl in
        (v.ok, sym (ap top p.words) ∙ v.same)
