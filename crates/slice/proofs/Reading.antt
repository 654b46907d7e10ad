-- The loop over the tokens of an expression: what is marked, with what the tokens that are left read, is what the expression reads.
use Rattle.std.proofs.Common.{◌≡◌, ℕ, true, false, Bool, ◌||◌, List, [], ◌∷◌, refl, sym, ap, ◌∙◌, subst}
use Rattle.expr.specs.declared.File.TheVariants.{Trace}
use Rattle.expr.specs.declared.token.Token.{Token}
use Rattle.expr.specs.Expr.{below, reads_only, parse}
use Rattle.expr.specs.Eval.{reads_token, reads}
use Rattle.expr.specs.Shown.{is_whole, tokens_of}
use Rattle.expr.proofs.Walks.{Known, tokens-known}
use Rattle.trace.specs.Shown.{symbol_room}

-- of the tokens `all`, `left` are left
pub record Marking (needed₀ : ℕ → Bool) (all : List Token) (needed : ℕ → Bool) (left : List Token) : Type 0 where
  pub may : Known (below symbol_room) left
  pub same : (x : ℕ) → (reads x left || needed x) ≡ (reads x all || needed₀ x)

pub marking_start : (e : List ℕ) (needed : ℕ → Bool) (left : List Token) → is_whole (parse Trace (below symbol_room) e) ≡ true
    → left ≡ tokens_of (parse Trace (below symbol_room) e) → Marking needed (tokens_of (parse Trace (below symbol_room) e)) needed left
marking_start e needed left h q =
    subst (Marking needed (tokens_of (parse Trace (below symbol_room) e)) needed) (sym q)
    (record { may = tokens-known Trace (below symbol_room) e h; same = λ x. refl })

or_moved : (a b c : Bool) → (b || (a || c)) ≡ ((a || b) || c)
or_moved true true c = refl
or_moved true false c = refl
or_moved false b c = refl

module _ {needed₀ : ℕ → Bool} {all : List Token} {needed : ℕ → Bool} {left : List Token} (v : Marking needed₀ all needed left) where
  module _ {t : Token} {rest : List Token} (q : left ≡ t ∷ rest) where
    pub marking_known : reads_only (below symbol_room) t ≡ true
    marking_known = (subst (Known (below symbol_room)) q v.may).0

    pub mark_on : {needed' : ℕ → Bool} → ((x : ℕ) → needed' x ≡ (reads_token x t || needed x)) → Marking needed₀ all needed' rest
    mark_on r = record {
      may = (subst (Known (below symbol_room)) q v.may).1;
      same = λ x.
          ap (λ b. reads x rest || b) (r x)
          ∙ or_moved (reads_token x t) (reads x rest) (needed x)
          ∙ ap (λ ts. reads x ts || needed x) (sym q)
          ∙ v.same x;
    }

  pub all-marked : left ≡ [] → (x : ℕ) → needed x ≡ (reads x all || needed₀ x)
  all-marked q x = sym (ap (λ ts. reads x ts || needed x) q) ∙ v.same x
