-- The token reader at an offset: what stands there, by the byte there and the number of bytes after it; and the tokens behind it.
use Rattle.std.proofs.Common.{◌≡◌, ℕ, zero, suc, ◌+◌, ◌-◌, ◌<◌, ◌≤◌, cond, List, [], ◌∷◌, length, get_or, drop, sym, refl, ap, ◌∙◌}
use Rattle.std.proofs.Common.{add-one, arith, length-drop, drop-cons, eq-eqb, ne_eqb, le-leb, None, Some}
use Rattle.std.specs.Prelude.{Option}
use Rattle.std.proofs.lemmas.Bool.{lt-leb}
use Rattle.expr.specs.declared.File.{File}
use Rattle.expr.specs.declared.File.TheVariants.{Table, Trace}
use Rattle.expr.specs.Number.{number_of}
use Rattle.expr.specs.declared.token.Token.{Token}
use Rattle.expr.specs.declared.token.Token.TheVariants.{Const, Symbol}
use Rattle.expr.specs.Token.{symbol_code, symbol_width, operand_count, operand, operator, read_token}
use Rattle.expr.specs.TokenLaws.{operator_high, symbol_code-low, token-there}
use Rattle.expr.specs.Shown.{token_then, tokens_from}

module _ (F : File) (s : List ℕ) (i : ℕ) (h : i < length s) where
  here : drop i s ≡ get_or s i 0 ∷ drop (i + 1) s
  here = drop-cons s i 0 h ∙ ap {B = List ℕ} (λ k. get_or s i 0 ∷ drop k s) (sym (add-one i))

  left : length (drop (i + 1) s) ≡ length s - i - 1
  left = omega (arith, length-drop (i + 1) s)

  symbol_not_constant : symbol_code F ≡ 1 → ⊥
  symbol_not_constant = go F
    where
      go : (F : File) → symbol_code F ≡ 1 → ⊥
      go Table e = omega arith
      go Trace e = omega arith

  constant : get_or s i 0 ≡ 1 → read_token F (drop i s) ≡ operand 4 Const (drop (i + 1) s)
  unfolding read_token
  constant e = ap (read_token F) here ∙ rw (eq-eqb (get_or s i 0) 1 e)

  symbol : get_or s i 0 ≡ symbol_code F → read_token F (drop i s) ≡ operand (symbol_width F) Symbol (drop (i + 1) s)
  unfolding read_token
  symbol e =
      ap (read_token F) here
      ∙ rw (ne_eqb (get_or s i 0) 1 (λ z. symbol_not_constant (sym e ∙ z)), eq-eqb (get_or s i 0) (symbol_code F) e)

  operand-there : (k : ℕ) (token : ℕ → Token) → k ≤ length s - i - 1
      → operand k token (drop (i + 1) s) ≡ Some (token (number_of k (drop (i + 1) s)))
  operand-there k token l =
      ap (λ b. cond b (Some (token (number_of k (drop (i + 1) s)))) None) (le-leb k (length (drop (i + 1) s)) (omega (arith, left)))

  operand_short : (k : ℕ) (token : ℕ → Token) → length s - i - 1 < k → operand k token (drop (i + 1) s) ≡ None
  operand_short k token l =
      ap (λ b. cond b (Some (token (number_of k (drop (i + 1) s)))) None) (lt-leb k (length (drop (i + 1) s)) (omega (arith, left)))

  pub constant-there : get_or s i 0 ≡ 1 → 4 ≤ length s - i - 1 → read_token F (drop i s) ≡ Some (Const (number_of 4 (drop (i + 1) s)))
  constant-there e l = constant e ∙ operand-there 4 Const l

  pub constant-short : get_or s i 0 ≡ 1 → length s - i - 1 < 4 → read_token F (drop i s) ≡ None
  constant-short e l = constant e ∙ operand_short 4 Const l

  pub symbol-there : get_or s i 0 ≡ symbol_code F → symbol_width F ≤ length s - i - 1
      → read_token F (drop i s) ≡ Some (Symbol (number_of (symbol_width F) (drop (i + 1) s)))
  symbol-there e l = symbol e ∙ operand-there (symbol_width F) Symbol l

  pub symbol-short : get_or s i 0 ≡ symbol_code F → length s - i - 1 < symbol_width F → read_token F (drop i s) ≡ None
  symbol-short e l = symbol e ∙ operand_short (symbol_width F) Symbol l

  pub operator-there : (get_or s i 0 ≡ 1 → ⊥) → (get_or s i 0 ≡ symbol_code F → ⊥) → read_token F (drop i s) ≡ operator (get_or s i 0)
  unfolding read_token
  operator-there p q = ap (read_token F) here ∙ rw (ne_eqb (get_or s i 0) 1 p, ne_eqb (get_or s i 0) (symbol_code F) q)

  -- above the codes of operands stand operators alone, and below them none
  pub operator-high : 3 < get_or s i 0 → read_token F (drop i s) ≡ operator (get_or s i 0)
  operator-high l = operator-there (λ e. omega arith) (λ e. omega (arith, symbol_code-low F))

  pub nothing-low : get_or s i 0 ≤ 3 → (get_or s i 0 ≡ 1 → ⊥) → (get_or s i 0 ≡ symbol_code F → ⊥) → read_token F (drop i s) ≡ None
  nothing-low l p q = operator-there p q ∙ go (operator (get_or s i 0)) refl
    where
      go : (o : Option Token) → operator (get_or s i 0) ≡ o → o ≡ None
      go None e = refl
      go (Some t) e = absurd (omega (arith, l, operator_high (get_or s i 0) t e))

-- ---- the tokens behind

-- a token has all its bytes
pub token-inside : (F : File) (bs : List ℕ) (t : Token) → read_token F bs ≡ Some t → 1 + operand_count F t ≤ length bs
unfolding read_token
token-inside F [] t e = absurd (let z : ◌≡◌ {A = ℕ} 0 1 = cc in omega arith)
token-inside F (b ∷ bs) t e = omega (arith, token-there F b bs t e)

tokens_drop : (F : File) (k : ℕ) (bs : List ℕ) → tokens_from F k bs ≡ tokens_from F 0 (drop k bs)
unfolding tokens_from
tokens_drop F zero bs = refl
tokens_drop F (suc k) [] = refl
tokens_drop F (suc k) (b ∷ bs) = tokens_drop F k bs

pub tokens-empty : (F : File) (bs : List ℕ) → length bs ≡ 0 → tokens_from F 0 bs ≡ []
unfolding tokens_from
tokens-empty F [] e = refl
tokens-empty F (b ∷ bs) e = absurd (omega arith)

pub tokens-none : (F : File) (bs : List ℕ) → read_token F bs ≡ None → tokens_from F 0 bs ≡ []
unfolding tokens_from
tokens-none F [] e = refl
tokens-none F (b ∷ bs) e = ap (λ o. token_then F o (λ k. tokens_from F k bs)) e

pub tokens-some : (F : File) (bs : List ℕ) (t : Token) → read_token F bs ≡ Some t
    → tokens_from F 0 bs ≡ t ∷ tokens_from F 0 (drop (1 + operand_count F t) bs)
unfolding tokens_from read_token
tokens-some F [] t e = absurd (let z : ◌≡◌ {A = ℕ} 0 1 = cc in omega arith)
tokens-some F (b ∷ bs) t e =
    ap (λ o. token_then F o (λ k. tokens_from F k bs)) e
    ∙ ap {B = List Token} (λ ts. t ∷ ts) (
    tokens_drop F (operand_count F t) bs
    ∙ ap (λ k. tokens_from F 0 (drop k (b ∷ bs))) (let q : suc (operand_count F t) ≡ 1 + operand_count F t = omega arith in q))
