-- The loop that writes the text of a trace's expression: what is written and what the tokens that are left say make the whole. No token
-- has more letters than six for each of its bytes.
use Rattle.std.proofs.Common.{◌≡◌, ℕ, ◌+◌, ◌*◌, ◌^◌, ◌≤◌, ◌<◌, true, List, [], ◌∷◌, ◌++◌, length, sym, ap, subst, arith}
use Rattle.expr.specs.declared.File.TheVariants.{Trace}
use Rattle.expr.specs.declared.token.Token.{Token}
use Rattle.expr.specs.Token.{operand_count, expr_bytes}
use Rattle.expr.specs.Expr.{below, reads_only, parse}
use Rattle.expr.specs.Shown.{is_whole, tokens_of}
use Rattle.expr.proofs.Walks.{Known, tokens-known, left-length}
use Rattle.trace.specs.Shown.{symbol_room}
use Rattle.write.specs.Splice.{Wrote}
use Rattle.write.specs.SpliceLaws.{Ahead, ahead_start, ahead_step, ahead_end}
use Rattle.write.specs.Ascii.{ascii}
use Rattle.show.specs.Text.{token_text, expr_text}

-- of the tokens `all`, `left` are left
pub record Putting (out₀ : List ℕ) (at : ℕ) (all left : List Token) (out : List ℕ) (to : ℕ) : Type 0 where
  pub may : Known (below symbol_room) left
  pub wrote : Ahead out to (expr_text left) out₀ at (expr_text all)
  pub little : to + 6 * length (expr_bytes Trace left) ≤ at + 6 * length (expr_bytes Trace all)

pub putting_start : (e out : List ℕ) (at : ℕ) (left : List Token) → is_whole (parse Trace (below symbol_room) e) ≡ true
    → left ≡ tokens_of (parse Trace (below symbol_room) e) → Putting out at (tokens_of (parse Trace (below symbol_room) e)) left out at
putting_start e out at left h q =
    subst (λ ts. Putting out at (tokens_of (parse Trace (below symbol_room) e)) ts out at) (sym q)
    (record { may = tokens-known Trace (below symbol_room) e h; wrote = ahead_start _ _ _; little = omega arith })

module _ {out₀ : List ℕ} {at : ℕ} {all left : List Token} {out : List ℕ} {to : ℕ} (v : Putting out₀ at all left out to) where
  module _ {t : Token} {rest : List Token} (q : left ≡ t ∷ rest) where
    pub putting_known : reads_only (below symbol_room) t ≡ true
    putting_known = (subst (Known (below symbol_room)) q v.may).0

    -- the letters of the token can be counted
    pub putting_room : at + 6 * length (expr_bytes Trace all) < 2 ^ 64 → to + 6 * (1 + operand_count Trace t) < 2 ^ 64
    putting_room r = omega (arith, r, v.little, left-length Trace q)

    pub put_on : {out' : List ℕ} {to' : ℕ} → Wrote out to (ascii " " ++ token_text t) out' to' → to' ≤ to + 6 * (1 + operand_count Trace t)
        → Putting out₀ at all rest out' to'
    put_on w l = record {
      may = (subst (Known (below symbol_room)) q v.may).1;
      wrote = ahead_step v.wrote (ap expr_text q) w;
      little = omega (arith, v.little, l, left-length Trace q);
    }

  pub put_all : left ≡ [] → Wrote out₀ at (expr_text all) out to × (to ≤ at + 6 * length (expr_bytes Trace all))
  put_all q = (ahead_end v.wrote (ap expr_text q), omega (arith, v.little))
