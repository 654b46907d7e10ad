-- An expression's tokens, one after the other: those that an accepted expression has, each of which may stand where it stands.
use Rattle.std.proofs.Common.{◌≡◌, ℕ, zero, suc, Bool, true, false, cond, List, [], ◌∷◌, eqb, eqb-true, refl, sym, ap, ap₂, ◌∙◌}
use Rattle.std.proofs.Common.{◌+◌, ◌<◌, ◌≤◌, length, length-append, get_or, subst, arith, Bor}
use Rattle.expr.specs.declared.File.{File}
use Rattle.expr.specs.declared.token.Tokens.{Tokens}
use Rattle.expr.specs.declared.token.Token.{Token}
use Rattle.expr.specs.Token.{operand_count, token_bytes, expr_bytes, read_token}
use Rattle.expr.specs.Number.{Byte}
use Rattle.expr.specs.TokenLaws.{operands-length}
use Rattle.expr.specs.Expr.{depth_limit, reads_only, after, Parsed, Whole, Breaks, parse_from, parse, Ok}
use Rattle.expr.specs.Shown.{token_then, tokens_from, tokens_left, is_whole, tokens_of}
use Rattle.expr.specs.Lists.{All, all-at}
use Rattle.expr.proofs.ExprLaws.{fits-is, took, parse-accepted}

-- each token reads only what may be read
abbrev pub Known : (may : ℕ → Bool) → List Token → Type 0
Known may e = All (λ t. reads_only may t ≡ true) e

pub ok-known : (may : ℕ → Bool) (limit d z : ℕ) (e : List Token) → Ok may limit d z e → Known may e
ok-known may limit d z [] o = tt
ok-known may limit d z (t ∷ e) o = ((fits-is may limit d t o.0).known, ok-known may limit (after d t) z e o.1)

module _ (F : File) (may : ℕ → Bool) where
  -- the tokens e, behind `skip` bytes, from d words to one
  record Walk (d skip : ℕ) (bs : List ℕ) (e : List Token) : Type 0 where
    pub read : tokens_from F skip bs ≡ e
    pub ok : Ok may (depth_limit F) d 1 e

  end : (d : ℕ) (e : List Token) (x : Bool) → eqb d 1 ≡ x → cond x (Whole []) (Breaks []) ≡ Whole e
      → ([] ≡ e) × Ok may (depth_limit F) d 1 e
  end d e true q h = let p : [] ≡ e = cc in (p, subst (Ok may (depth_limit F) d 1) p (eqb-true d 1 q))
  end d e false q h = absurd (let z : ◌≡◌ {A = ℕ} 0 1 = cc in omega arith)

  walk : (d skip : ℕ) (bs : List ℕ) (e : List Token) → parse_from F may d skip bs ≡ Whole e → Walk d skip bs e
  unfolding parse_from tokens_from
  walk d skip [] e h = let k = end d e (eqb d 1) refl h in record { read = k.0; ok = k.1 }
  walk d (suc skip) (b ∷ bs) e h = let w = walk d skip bs e h in record { read = w.read; ok = w.ok }
  walk d zero (b ∷ bs) e h =
      let k = took F may d (b ∷ bs) (read_token F (b ∷ bs)) (λ c m. parse_from F may c m bs) e h in
      let w = walk (after d k.token) (operand_count F k.token) bs k.tail k.on in
      record {
        read =
            ap (λ o. token_then F o (λ m. tokens_from F m bs)) k.is_read
            ∙ ap {B = List Token} (λ ts. k.token ∷ ts) w.read
            ∙ sym k.is;
        ok = subst (Ok may (depth_limit F) d 1) (sym k.is) (k.fit, w.ok);
      }

  whole : (p : Parsed) → is_whole p ≡ true → p ≡ Whole (tokens_of p)
  whole (Whole e) h = refl
  whole (Breaks bs) h = absurd (let z : ◌≡◌ {A = ℕ} 0 1 = cc in omega arith)

  module _ (bs : List ℕ) (h : is_whole (parse F may bs) ≡ true) where
    walked : Walk 0 0 bs (tokens_of (parse F may bs))
    walked = walk 0 0 bs (tokens_of (parse F may bs)) (whole (parse F may bs) h)

    -- what the iterator over these bytes gives
    pub tokens-given : (r : Tokens) (b : Bor (List ℕ)) → r.rest ≡ b → r.file ≡ F → b.now ≡ bs → tokens_left r ≡ tokens_of (parse F may bs)
    tokens-given r b p q k = ap₂ (λ G (x : Bor (List ℕ)). tokens_from G 0 x.now) q p ∙ ap (tokens_from F 0) k ∙ walked.read

    pub tokens-ok : Ok may (depth_limit F) 0 1 (tokens_of (parse F may bs))
    tokens-ok = walked.ok

    pub tokens-known : Known may (tokens_of (parse F may bs))
    tokens-known = ok-known may (depth_limit F) 0 1 (tokens_of (parse F may bs)) tokens-ok

    -- they have all bytes
    pub tokens-length : ((i : ℕ) → i < length bs → get_or bs i 0 < 256) → length (expr_bytes F (tokens_of (parse F may bs))) ≡ length bs
    tokens-length o = ap length (parse-accepted F may bs (tokens_of (parse F may bs)) (all-at Byte bs o) (whole (parse F may bs) h)).bytes

-- the bytes of the tokens that are left, with the first of them and without
pub left-length : (F : File) {left rest : List Token} {t : Token} → left ≡ t ∷ rest
    → length (expr_bytes F left) ≡ 1 + operand_count F t + length (expr_bytes F rest)
left-length F {left} {rest} {t} q =
    ap (λ ts. length (expr_bytes F ts)) q
    ∙ (let k : length (expr_bytes F (t ∷ rest)) ≡ 1 + operand_count F t + length (expr_bytes F rest) =
    omega (arith, length-append (token_bytes F t) (expr_bytes F rest), operands-length F t) in k)

-- no token has no bytes
pub tokens-few : (F : File) (e : List Token) → length e ≤ length (expr_bytes F e)
tokens-few F [] = omega arith
tokens-few F (t ∷ e) = omega (arith, tokens-few F e, left-length F {left = t ∷ e} refl)
