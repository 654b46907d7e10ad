-- The loops over a table's expression, which write it as a trace's or measure it: what is done and what the tokens that are left need make
-- the whole.
use Rattle.std.proofs.Common.{◌≡◌, ℕ, zero, suc, ◌+◌, ◌*◌, ◌≤◌, ◌<◌, true, List, [], ◌∷◌, length, get_or, refl, sym, ap, ◌∙◌, subst}
use Rattle.std.proofs.Common.{arith}
use Rattle.std.proofs.Common.{length-append}
use Rattle.expr.specs.declared.File.TheVariants.{Table, Trace}
use Rattle.expr.specs.declared.token.Token.{Token}
use Rattle.expr.specs.declared.token.Token.TheVariants.{Const, Symbol, Un, Bin, Ite}
use Rattle.expr.specs.Token.{token_bytes, expr_bytes}
use Rattle.expr.specs.Expr.{below, reads_only, parse}
use Rattle.expr.specs.Eval.{rename_token, rename}
use Rattle.expr.specs.Shown.{is_whole, tokens_of}
use Rattle.expr.proofs.Walks.{Known, tokens-known}
use Rattle.write.specs.Splice.{Wrote}
use Rattle.write.specs.SpliceLaws.{Ahead, ahead_start, ahead_step, ahead_end, ahead_room}
use Rattle.unwind.specs.Size.{expr_size}
use Rattle.unwind.proofs.SizeLaws.{size-rename}
use Rattle.unwind.specs.Shown.{current_of}

-- where a list has an element, it does not matter what stands for a missing one
get_or-inside : (xs : List ℕ) (i : ℕ) → i < length xs → (d e : ℕ) → get_or xs i d ≡ get_or xs i e
get_or-inside [] i h d e = absurd (omega arith)
get_or-inside (x ∷ xs) zero h d e = refl
get_or-inside (x ∷ xs) (suc i) h d e = get_or-inside xs i (omega arith) d e

pub current-at : (names : List ℕ) (s : ℕ) → s < length names → get_or names s 0 ≡ current_of names s
current-at names s h = get_or-inside names s h 0 s

-- ---- the loop that writes

module _ (names : List ℕ) where
  -- the tokens' bytes in the trace
  abbrev pub renamed : List Token → List ℕ
  renamed e = expr_bytes Trace (rename (current_of names) e)

  pub record Putting (out₀ : List ℕ) (at : ℕ) (all rest : List Token) (out : List ℕ) (to : ℕ) : Type 0 where
    pub may : Known (below (length names)) rest
    pub wrote : Ahead out to (renamed rest) out₀ at (renamed all)

  pub putting_start : (e out : List ℕ) (at : ℕ) (rest : List Token) → is_whole (parse Table (below (length names)) e) ≡ true
      → rest ≡ tokens_of (parse Table (below (length names)) e)
      → Putting out at (tokens_of (parse Table (below (length names)) e)) rest out at
  putting_start e out at rest h q =
      subst (λ ts. Putting out at (tokens_of (parse Table (below (length names)) e)) ts out at) (sym q)
      (record { may = tokens-known Table (below (length names)) e h; wrote = ahead_start _ _ _ })

  module _ {out₀ : List ℕ} {at : ℕ} {all left : List Token} {out : List ℕ} {to : ℕ} (v : Putting out₀ at all left out to) where
    module _ {t : Token} {rest : List Token} (q : left ≡ t ∷ rest) where
      -- there is room for a token
      pub putting_room : at + expr_size all ≤ length out₀ → to + length (token_bytes Trace (rename_token (current_of names) t)) ≤ length out
      putting_room r =
          let a = ahead_room v.wrote (rw size-rename r) in
          let k : length (renamed left) ≡ length (token_bytes Trace (rename_token (current_of names) t)) + length (renamed rest) =
          ap (λ ts. length (renamed ts)) q ∙ length-append (token_bytes Trace (rename_token (current_of names) t)) (renamed rest) in
          omega (arith, a, k)

      pub putting_known : reads_only (below (length names)) t ≡ true
      putting_known = (subst (Known (below (length names))) q v.may).0

      pub put_on : {out' : List ℕ} {to' : ℕ} → Wrote out to (token_bytes Trace (rename_token (current_of names) t)) out' to'
          → Putting out₀ at all rest out' to'
      put_on w = record { may = (subst (Known (below (length names))) q v.may).1; wrote = ahead_step v.wrote (ap renamed q) w }

    pub put_all : left ≡ [] → Wrote out₀ at (renamed all) out to
    put_all q = ahead_end v.wrote (ap renamed q)

-- ---- the loop that measures

-- in a trace, at most twice as many bytes as in the table
little_token : (t : Token) → length (token_bytes Trace t) ≤ 2 * length (token_bytes Table t)
little_token (Const n) = omega arith
little_token (Symbol s) = omega arith
little_token (Un u) = omega arith
little_token (Bin u) = omega arith
little_token Ite = omega arith

pub little : (e : List Token) → expr_size e ≤ 2 * length (expr_bytes Table e)
little [] = omega arith
little (t ∷ e) =
    omega (
      arith,
      little_token t,
      little e,
      length-append (token_bytes Trace t) (expr_bytes Trace e),
      length-append (token_bytes Table t) (expr_bytes Table e),
    )
