-- Tokens: written and read again, read and written again. The operators are told apart by what they pop.
use Rattle.std.specs.Prelude.{◌≡◌, ℕ, zero, suc, ◌^◌, ◌<◌, ◌≤◌, Bool, true, false, cond, List, [], ◌∷◌, ◌++◌, length, take, ◌==◌, nat_le}
use Rattle.std.proofs.Common.{arith, sym, ap, ap₂, ◌∙◌, subst, append_assoc, length-append, eqb-true, ne_eqb, le-leb, leb-true}
use Rattle.std.proofs.Math.Path.{refl}
use Rattle.std.specs.Prelude.{Option, None, Some}
use Rattle.expr.specs.declared.File.{File}
use Rattle.expr.specs.declared.File.TheVariants.{Table, Trace}
use Rattle.expr.specs.Lists.{All}
use Rattle.expr.specs.declared.word.Unary.{Unary}
use Rattle.expr.specs.declared.word.Unary.TheVariants.{Not, Neg, Zero}
use Rattle.expr.specs.declared.word.Binary.{Binary}
use Rattle.expr.specs.declared.word.Binary.TheVariants.{Add, Sub, Mul, Udiv, Urem, And, Or, Xor, Shl, Lshr, Equal, Ult, Ule, Slt}
use Rattle.expr.specs.Number.{Byte, number_of, bytes_of}
use Rattle.expr.specs.NumberLaws.{bytes_of-length, number-written, number_lt, bytes_read}
use Rattle.expr.specs.declared.token.Token.{Token}
use Rattle.expr.specs.declared.token.Token.TheVariants.{Const, Symbol, Un, Bin, Ite}
use Rattle.expr.specs.Token.{symbol_code, symbol_width, unary_code, binary_code, code, operands}
use Rattle.expr.specs.Token.{operand_count, token_bytes, expr_bytes, operators, coded, operator, operand, read_token}

-- the number of a token fits its bytes
abbrev pub Holds : File → Token → Type 0
Holds F (Const n) = n < 256 ^ 4
Holds F (Symbol s) = s < 256 ^ symbol_width F
Holds F (Un o) = Unit {0}
Holds F (Bin o) = Unit {0}
Holds F Ite = Unit {0}

pub operands-length : (F : File) (t : Token) → length (operands F t) ≡ operand_count F t
operands-length F (Const n) = bytes_of-length 4 n
operands-length F (Symbol s) = bytes_of-length (symbol_width F) s
operands-length F (Un o) = refl
operands-length F (Bin o) = refl
operands-length F Ite = refl

pub symbol_width_le : (F : File) → symbol_width F ≤ 2
symbol_width_le Table = omega arith
symbol_width_le Trace = omega arith

-- ---- written, then read

operand-written : (k : ℕ) (token : ℕ → Token) (n : ℕ) (rest : List ℕ) → n < 256 ^ k → operand k token (bytes_of k n ++ rest)
    ≡ Some (token n)
operand-written k token n rest h =
    ap (λ b. cond b (Some (token (number_of k (bytes_of k n ++ rest)))) None)
    (le-leb k _ (omega (arith, length-append (bytes_of k n) rest, bytes_of-length k n)))
    ∙ ap {B = Option Token} (λ x. Some (token x)) (number-written k n rest h)

-- no operator has the code of a constant or a symbol
pub operator_high : (b : ℕ) (t : Token) → operator b ≡ Some t → 3 < b
unfolding operator
operator_high zero t h = absurd (let z : ◌≡◌ {A = ℕ} 0 1 = cc in omega arith)
operator_high (suc zero) t h = absurd (let z : ◌≡◌ {A = ℕ} 0 1 = cc in omega arith)
operator_high (suc (suc zero)) t h = absurd (let z : ◌≡◌ {A = ℕ} 0 1 = cc in omega arith)
operator_high (suc (suc (suc zero))) t h = absurd (let z : ◌≡◌ {A = ℕ} 0 1 = cc in omega arith)
operator_high (suc (suc (suc (suc b)))) t h = omega arith

pub symbol_code-low : (F : File) → symbol_code F ≤ 3
symbol_code-low Table = omega arith
symbol_code-low Trace = omega arith

pub operator-read : (F : File) (b : ℕ) (t : Token) (rest : List ℕ) → operator b ≡ Some t → read_token F (b ∷ rest) ≡ Some t
unfolding read_token
operator-read F b t rest h =
    let l : 3 < b = operator_high b t h in
    rw (ne_eqb b 1 (λ e. omega arith), ne_eqb b (symbol_code F) (λ e. omega (arith, symbol_code-low F))) h

pub operator-unary : (o : Unary) → operator (unary_code o) ≡ Some (Un o)
unfolding operator
operator-unary Not = refl
operator-unary Neg = refl
operator-unary Zero = refl

pub operator-binary : (o : Binary) → operator (binary_code o) ≡ Some (Bin o)
unfolding operator
operator-binary Add = refl
operator-binary Sub = refl
operator-binary Mul = refl
operator-binary Udiv = refl
operator-binary Urem = refl
operator-binary And = refl
operator-binary Or = refl
operator-binary Xor = refl
operator-binary Shl = refl
operator-binary Lshr = refl
operator-binary Equal = refl
operator-binary Ult = refl
operator-binary Ule = refl
operator-binary Slt = refl

pub operator-ite : operator 0x30 ≡ Some Ite
unfolding operator
operator-ite = refl

pub token-written : (F : File) (t : Token) (rest : List ℕ) → Holds F t → read_token F (token_bytes F t ++ rest) ≡ Some t
unfolding read_token
token-written F (Const n) rest h = operand-written 4 Const n rest h
token-written Table (Symbol s) rest h = operand-written 1 Symbol s rest h
token-written Trace (Symbol s) rest h = operand-written 2 Symbol s rest h
token-written F (Un o) rest h = operator-read F (unary_code o) (Un o) rest (operator-unary o)
token-written F (Bin o) rest h = operator-read F (binary_code o) (Bin o) rest (operator-binary o)
token-written F Ite rest h = operator-read F 0x30 Ite rest operator-ite

-- ---- read, then written

abbrev pub IsOperator : Token → Type 0
IsOperator (Const n) = ⊥
IsOperator (Symbol s) = ⊥
IsOperator (Un o) = Unit {0}
IsOperator (Bin o) = Unit {0}
IsOperator Ite = Unit {0}

-- every operator is read by its code
pub operator-coded : (t : Token) → IsOperator t → operator (code Table t) ≡ Some t
operator-coded (Const n) o = absurd o
operator-coded (Symbol s) o = absurd o
operator-coded (Un u) o = operator-unary u
operator-coded (Bin u) o = operator-binary u
operator-coded Ite o = operator-ite

all-operators : All IsOperator operators
all-operators = (tt, (tt, (tt, (tt, (tt, (tt, (tt, (tt, (tt, (tt, (tt, (tt, (tt, (tt, (tt, (tt, (tt, (tt, tt))))))))))))))))))

coded-is : (b : ℕ) (t : Token) (ts : List Token) → All IsOperator ts → coded b ts ≡ Some t → (b ≡ code Table t) × IsOperator t
coded-is b t [] o h = absurd (let z : ◌≡◌ {A = ℕ} 0 1 = cc in omega arith)
coded-is b t (u ∷ ts) o h = go (b == code Table u) refl h (coded-is b t ts o.1)
  where
    go : (x : Bool) → (b == code Table u) ≡ x → cond x (Some u) (coded b ts) ≡ Some t
        → (coded b ts ≡ Some t → (b ≡ code Table t) × IsOperator t) → (b ≡ code Table t) × IsOperator t
    go true e h rest = let p : u ≡ t = cc in subst (λ v. (b ≡ code Table v) × IsOperator v) p (eqb-true b (code Table u) e, o.0)
    go false e h rest = rest h

pub operator-is : (b : ℕ) (t : Token) → operator b ≡ Some t → (b ≡ code Table t) × IsOperator t
unfolding operator
operator-is b t h = coded-is b t operators all-operators h

-- the token t stands at the front of bs
pub record Stands (F : File) (bs : List ℕ) (t : Token) : Type 0 where
  pub bytes : token_bytes F t ≡ take (suc (operand_count F t)) bs
  pub holds : Holds F t

pub operator-count : (F : File) (t : Token) → IsOperator t → operand_count F t ≡ 0
operator-count F (Const n) o = absurd o
operator-count F (Symbol s) o = absurd o
operator-count F (Un u) o = refl
operator-count F (Bin u) o = refl
operator-count F Ite o = refl

module _ (F : File) (b : ℕ) (bs : List ℕ) where
  operator-stands : (t : Token) → b ≡ code Table t → IsOperator t → Stands F (b ∷ bs) t
  operator-stands (Const n) e o = absurd o
  operator-stands (Symbol s) e o = absurd o
  operator-stands (Un u) e o = record { bytes = ap {B = List ℕ} (λ x. x ∷ []) (sym e); holds = tt }
  operator-stands (Bin u) e o = record { bytes = ap {B = List ℕ} (λ x. x ∷ []) (sym e); holds = tt }
  operator-stands Ite e o = record { bytes = ap {B = List ℕ} (λ x. x ∷ []) (sym e); holds = tt }

  -- the case of a token with a number of k bytes
  module _ (k : ℕ) (token : ℕ → Token) (t : Token) where
    operand-is : operand k token bs ≡ Some t → (k ≤ length bs) × (token (number_of k bs) ≡ t)
    operand-is h = go (nat_le k (length bs)) refl h
      where
        go : (x : Bool) → nat_le k (length bs) ≡ x → cond x (Some (token (number_of k bs))) None ≡ Some t
            → (k ≤ length bs) × (token (number_of k bs) ≡ t)
        go true e h = (leb-true k (length bs) e, (cc))
        go false e h = absurd (let z : ◌≡◌ {A = ℕ} 0 1 = cc in omega arith)

  -- what reading a token comes to, in its three cases
  read_cases {ℓ} : {C : Type ℓ} (t : Token) → read_token F (b ∷ bs) ≡ Some t
      → (b ≡ 1 → 4 ≤ length bs → Const (number_of 4 bs) ≡ t → C)
      → (b ≡ symbol_code F → symbol_width F ≤ length bs → Symbol (number_of (symbol_width F) bs) ≡ t → C)
      → (b ≡ code Table t → IsOperator t → C) → C
  unfolding read_token
  read_cases {C = C} t h constant symbol op = go (b == 1) refl (b == symbol_code F) refl h
    where
      go : (x : Bool) → (b == 1) ≡ x → (y : Bool) → (b == symbol_code F) ≡ y
          → cond x (operand 4 Const bs) (cond y (operand (symbol_width F) Symbol bs) (operator b)) ≡ Some t → C
      go true e y f h = let o = operand-is 4 Const t h in constant (eqb-true b 1 e) o.0 o.1
      go false e true f h = let o = operand-is (symbol_width F) Symbol t h in symbol (eqb-true b (symbol_code F) f) o.0 o.1
      go false e false f h = let c = operator-is b t h in op c.0 c.1

  -- the operands of a token that is read are there
  pub token-there : (t : Token) → read_token F (b ∷ bs) ≡ Some t → operand_count F t ≤ length bs
  token-there t h =
      read_cases t h (λ e l q. subst (λ u. operand_count F u ≤ length bs) q l) (λ e l q. subst (λ u. operand_count F u ≤ length bs) q l)
      (λ e o. omega (arith, operator-count F t o))

  pub token-stands : (t : Token) → All Byte bs → read_token F (b ∷ bs) ≡ Some t → Stands F (b ∷ bs) t
  token-stands t o h =
      read_cases t h
      (λ e l q. subst (Stands F (b ∷ bs)) q (record {
        bytes = ap₂ {C = List ℕ} (λ x y. x ∷ y) (sym e) (bytes_read 4 bs o l);
        holds =
            number_lt 4 bs o;
      }))
      (λ e l q. subst (Stands F (b ∷ bs)) q (record {
        bytes = ap₂ {C = List ℕ} (λ x y. x ∷ y) (sym e) (bytes_read (symbol_width F) bs o l);
        holds = number_lt (symbol_width F) bs o;
      }))
      (operator-stands t)

-- ---- the bytes of an expression

pub bytes-append : (F : File) (a b : List Token) → expr_bytes F (a ++ b) ≡ expr_bytes F a ++ expr_bytes F b
bytes-append F [] b = refl
bytes-append F (t ∷ a) b =
    ap (λ bs. token_bytes F t ++ bs) (bytes-append F a b) ∙ sym (append_assoc (token_bytes F t) (expr_bytes F a) (expr_bytes F b))
