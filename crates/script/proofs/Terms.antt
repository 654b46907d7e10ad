-- An expression's text: the loop that writes the tokens' bindings. No token has more letters than 128, and a closing parenthesis.
use Rattle.std.proofs.Common.{◌≡◌, ℕ, suc, ◌+◌, ◌*◌, ◌≤◌, ◌<◌, true, List, [], ◌∷◌, ◌++◌, length, replicate, refl, sym, ap, ◌∙◌, subst}
use Rattle.std.proofs.Common.{arith, append_assoc}
use Rattle.expr.specs.declared.File.TheVariants.{Trace}
use Rattle.expr.specs.declared.token.Token.{Token}
use Rattle.expr.specs.Token.{expr_bytes}
use Rattle.expr.specs.Expr.{below, fits, after, parse, Ok}
use Rattle.expr.specs.Shown.{is_whole, tokens_of}
use Rattle.expr.proofs.ExprLaws.{Fits, fits-is}
use Rattle.expr.proofs.Walks.{tokens-ok, tokens-few}
use Rattle.trace.specs.Shown.{symbol_room}
use Rattle.write.specs.Splice.{Wrote}
use Rattle.write.specs.SpliceLaws.{◌then◌, wrote_as, Ahead, ahead_start, ahead_step, ahead_end}
use Rattle.script.specs.Script.{term_from, expr_term}
use Rattle.script.specs.ScriptText.{slot_name, term_text}
use Rattle.script.specs.Shown.{binding}
use Rattle.script.proofs.Letters.{replicate-end}

-- what the check of a token says of it
pub ruleset fitting = (fits-is)

-- ---- the bindings, then x0, then a parenthesis for each

abbrev openings : (d : ℕ) → List Token → List ℕ
openings d [] = []
openings d (t ∷ e) = binding d t ++ openings (after d t) e

term-linear : (d : ℕ) (e : List Token) → openings d e ++ slot_name 0 ++ replicate (length e) 41 ≡ term_text (term_from d e)
term-linear d [] = append-nil (slot_name 0)
  where
    append-nil : (xs : List ℕ) → xs ++ [] ≡ xs
    append-nil [] = refl
    append-nil (x ∷ xs) = ap {B = List ℕ} (λ r. x ∷ r) (append-nil xs)
term-linear d (t ∷ e) =
    let b = binding d t in
    let o = openings (after d t) e in
    let c = replicate {A = ℕ} (length e) 41 in
    ap (λ r. b ++ o ++ slot_name 0 ++ r) (sym (replicate-end (length e) 41))
    ∙ sym (append_assoc (b ++ o ++ slot_name 0) c (41 ∷ []))
    ∙ ap (λ r. r ++ 41 ∷ [])
    (ap (λ r. r ++ c) (append_assoc b o (slot_name 0))
    ∙ append_assoc b (o ++ slot_name 0) c
    ∙ ap (λ r. b ++ r) (term-linear (after d t) e))

-- ---- the loop

-- with d words held, n of the tokens `all` are written and `left` are left
pub record Putting (out₀ : List ℕ) (at : ℕ) (all left : List Token) (out : List ℕ) (d n to : ℕ) : Type 0 where
  pub ok : Ok (below symbol_room) 17 d 1 left
  pub deep : d ≤ 17
  pub wrote : Ahead out to (openings d left) out₀ at (openings 0 all)
  pub count : n + length left ≡ length all
  pub little : to ≤ at + 128 * n

pub putting_start : (e out : List ℕ) (at : ℕ) (left : List Token) → is_whole (parse Trace (below symbol_room) e) ≡ true
    → left ≡ tokens_of (parse Trace (below symbol_room) e)
    → Putting out at (tokens_of (parse Trace (below symbol_room) e)) left out 0 0 at
putting_start e out at left h q =
    subst (λ ts. Putting out at (tokens_of (parse Trace (below symbol_room) e)) ts out 0 0 at) (sym q) (record {
      ok = tokens-ok Trace (below symbol_room) e h;
      deep = omega arith;
      wrote = ahead_start _ _ _;
      count = omega arith;
      little = omega arith;
    })

module _ {out₀ : List ℕ} {at : ℕ} {all left : List Token} {out : List ℕ} {d n to : ℕ} (v : Putting out₀ at all left out d n to) where
  module _ {t : Token} {rest : List Token} (q : left ≡ t ∷ rest) where
    ok-here : Ok (below symbol_room) 17 d 1 (t ∷ rest)
    ok-here = subst (Ok (below symbol_room) 17 d 1) q v.ok

    pub putting_fits : fits (below symbol_room) 17 d t ≡ true
    putting_fits = ok-here.0

    pub fit : Fits (below symbol_room) 17 d t
    fit = fits-is (below symbol_room) 17 d t putting_fits

    pub putting_more : n < length all
    putting_more = let l : length left ≡ suc (length rest) = ap length q in omega (arith, v.count)

    pub put_on : {out' : List ℕ} {d' to' : ℕ} → d' ≡ after d t → Wrote out to (binding d t) out' to' × (to' ≤ to + 128)
        → Putting out₀ at all rest out' d' (n + 1) to'
    put_on {out'} {d'} {to'} e (w, l) =
        subst (λ c. Putting out₀ at all rest out' c (n + 1) to') (sym e) (record {
          ok = ok-here.1;
          deep = fit.room;
          wrote = ahead_step v.wrote (ap (openings d) q) w;
          count = (let k : length left ≡ suc (length rest) = ap length q in omega (arith, v.count));
          little = omega (arith, v.little, l);
        })

  pub put_all : left ≡ [] → {p q : List ℕ} {a b : ℕ} → Wrote out to (slot_name 0) p a × (a ≤ to + 11)
      → Wrote p a (replicate n 41) q b × (b ≡ a + n)
      → Wrote out₀ at (term_text (expr_term all)) q b × (b ≤ at + 130 * length (expr_bytes Trace all) + 11)
  unfolding expr_term
  put_all z (x, l) (y, m) =
      let c : n ≡ length all = (let k : length left ≡ 0 = ap length z in omega (arith, v.count)) in (
        wrote_as (ap (λ k. openings 0 all ++ slot_name 0 ++ replicate {A = ℕ} k 41) c ∙ term-linear 0 all)
            ((ahead_end v.wrote (ap (openings d) z) then x) then y),
        omega (arith, v.little, tokens-few Trace all),
      )
