-- A token that may stand at an offset, for whoever walks by offsets: it is there, reads what may be read, and the check goes on behind it.
-- And which operator pops, but is neither unary nor binary.
use Rattle.std.proofs.Common.{◌≡◌, ℕ, zero, suc, ◌+◌, ◌<◌, ◌≤◌, Bool, true, false, cond, eqb, ltb, List, length, drop, length-drop}
use Rattle.std.proofs.Common.{sym, refl, ap, ◌∙◌, arith, None, Some, ltb-false, ltb-true, le-ltb, lt-ltb, ne_eqb, eqb-true}
use Rattle.std.specs.Prelude.{Option}
use Rattle.expr.specs.declared.File.{File}
use Rattle.expr.specs.declared.word.Binary.{Binary}
use Rattle.expr.specs.declared.token.Token.{Token}
use Rattle.expr.specs.declared.token.Token.TheVariants.{Const, Symbol, Un, Bin, Ite}
use Rattle.expr.specs.Lists.{every, every-below}
use Rattle.expr.specs.Token.{operand_count, operator, read_token}
use Rattle.expr.specs.TokenLaws.{operator-is}
use Rattle.expr.specs.Expr.{depth_limit, below, pops, after, fits, Parsed, Breaks, also, on_token, parse_from}
use Rattle.expr.specs.Shown.{is_whole}
use Rattle.expr.proofs.ExprLaws.{operator-pops, fits-is, token-at}
use Rattle.expr.proofs.Reading.{token-inside}

-- ---- a token that may stand at an offset

-- where d words are held
abbrev pub may_stand : (F : File) (may : ℕ → Bool) (d : ℕ) → Option Token → Bool
may_stand F may d None = false
may_stand F may d (Some t) = fits may (depth_limit F) d t

-- above some number of words
abbrev pub Stands : (F : File) (S : ℕ) (e : List ℕ) (i : ℕ) → Type 0
Stands F S e i = (d : ℕ) × (may_stand F (below S) d (read_token F (drop i e)) ≡ true)

-- the bytes of a token
abbrev pub size_of : (F : File) → Option Token → ℕ
size_of F None = 0
size_of F (Some t) = suc (operand_count F t)

module _ (F : File) (S : ℕ) (e : List ℕ) (i : ℕ) (k : Stands F S e i) where
  pub stands-size : 0 < size_of F (read_token F (drop i e))
  stands-size = go (read_token F (drop i e)) k.1
    where
      go : (o : Option Token) → may_stand F (below S) k.0 o ≡ true → 0 < size_of F o
      go None q = absurd (let z : ◌≡◌ {A = ℕ} 0 1 = cc in omega arith)
      go (Some t) q = omega arith

  pub not_nothing : {t : Option Token} → t ≡ read_token F (drop i e) → t ≡ None → ⊥
  not_nothing q p = go (ap (may_stand F (below S) k.0) (sym p ∙ q) ∙ k.1)
    where
      go : may_stand F (below S) k.0 None ≡ true → ⊥
      go q = let z : ◌≡◌ {A = ℕ} 0 1 = cc in omega arith

  pub symbol-below : {t : Option Token} {s : ℕ} → t ≡ read_token F (drop i e) → t ≡ Some (Symbol s) → s < S
  symbol-below {s = s} q p =
      ltb-true s S (fits-is (below S) (depth_limit F) k.0 (Symbol s) (ap (may_stand F (below S) k.0) (sym p ∙ q) ∙ k.1)).known

-- the token at offset i leaves depth d' and takes m bytes
pub record Went (F : File) (may : ℕ → Bool) (d : ℕ) (s : List ℕ) (i d' m : ℕ) : Type 0 where
  pub token : Token
  pub is_read : read_token F (drop i s) ≡ Some token
  pub fit : fits may (depth_limit F) d token ≡ true
  pub deep : d' ≡ after d token
  pub size : m ≡ suc (operand_count F token)
  pub inside : i + m ≤ length s
  pub same : parse_from F may d 0 (drop i s) ≡ also token (parse_from F may d' 0 (drop (i + m) s))

module _ (F : File) (may : ℕ → Bool) (d : ℕ) (s : List ℕ) (i : ℕ) (h : i < length s) where
  abbrev rest : ℕ → ℕ → Parsed
  rest c m = parse_from F may c 0 (drop (i + suc m) s)

  -- a token that may stand there is read, and the check goes on behind it
  pub goes_on : (t : Token) → read_token F (drop i s) ≡ Some t → fits may (depth_limit F) d t ≡ true
      → Went F may d s i (after d t) (suc (operand_count F t))
  goes_on t r f = record {
    token = t;
    is_read = r;
    fit = f;
    deep = refl;
    size = refl;
    inside = omega (arith, token-inside F (drop i s) t r, length-drop i s);
    same =
        token-at F may d s i h
        ∙ ap (λ o. on_token F may d (drop i s) o rest) r
        ∙ ap (λ x. cond x (also t (rest (after d t) (operand_count F t))) (Breaks (drop i s))) f;
  }

  -- where none may, the bytes break there
  pub breaks-here : may_stand F may d (read_token F (drop i s)) ≡ false → parse_from F may d 0 (drop i s) ≡ Breaks (drop i s)
  breaks-here q = token-at F may d s i h ∙ go (read_token F (drop i s)) q
    where
      go : (o : Option Token) → may_stand F may d o ≡ false → on_token F may d (drop i s) o rest ≡ Breaks (drop i s)
      go None q = refl
      go (Some t) q = ap (λ x. cond x (also t (rest (after d t) (operand_count F t))) (Breaks (drop i s))) q

  -- where the rest is an expression, its next token stands there
  pub whole-went : is_whole (parse_from F may d 0 (drop i s)) ≡ true → (d' : ℕ) × (m : ℕ) × Went F may d s i d' m
  whole-went q = go (read_token F (drop i s)) refl (sym (ap is_whole (token-at F may d s i h)) ∙ q)
    where
      go : (o : Option Token) → read_token F (drop i s) ≡ o → is_whole (on_token F may d (drop i s) o rest) ≡ true
          → (d' : ℕ) × (m : ℕ) × Went F may d s i d' m
      go None r q = absurd (let z : ◌≡◌ {A = ℕ} 0 1 = cc in omega arith)
      go (Some t) r q = fit (fits may (depth_limit F) d t) refl q
        where
          fit : (x : Bool) → fits may (depth_limit F) d t ≡ x
              → is_whole (cond x (also t (rest (after d t) (operand_count F t))) (Breaks (drop i s))) ≡ true
              → (d' : ℕ) × (m : ℕ) × Went F may d s i d' m
          fit false f q = absurd (let z : ◌≡◌ {A = ℕ} 0 1 = cc in omega arith)
          fit true f q = (after d t, suc (operand_count F t), goes_on t r f)

-- ---- operators by what they pop

abbrev pub popped : Option Token → ℕ
popped None = 0
popped (Some t) = pops t

-- how many words the operator of a code pops
unfoldable pub pops_of : (code : ℕ) → ℕ
pops_of b = popped (operator b)

abbrev pub pops_by_range : ℕ → ℕ
pops_by_range b = cond (ltb b 0x10) 0 (cond (ltb b 0x13) 1 (cond (ltb b 0x20) 0 (cond (ltb b 0x2E) 2 (cond (eqb b 0x30) 3 0))))

computed : every 256 (λ b. eqb (pops_of b) (pops_by_range b)) ≡ true
unfolding pops_of operator
computed = refl

pub pops-by_range : (b : ℕ) → b < 256 → pops_of b ≡ pops_by_range b
pops-by_range b h = eqb-true (pops_of b) (pops_by_range b) (every-below 256 (λ b. eqb (pops_of b) (pops_by_range b)) computed b h)

pub pops-ite : pops_of 0x30 ≡ 3
unfolding pops_of operator
pops-ite = refl

pub pops-of : (b : ℕ) (t : Token) → operator b ≡ Some t → pops_of b ≡ pops t
unfolding pops_of
pops-of b t h = ap popped h

pub no_operator : (b : ℕ) → pops_of b ≡ 0 → operator b ≡ None
unfolding pops_of
no_operator b h = go (operator b) refl h
  where
    go : (o : Option Token) → operator b ≡ o → popped o ≡ 0 → o ≡ None
    go None e h = refl
    go (Some t) e h = absurd (omega (arith, operator-pops t (operator-is b t e).1))

pub is-binary : (b : ℕ) → pops_of b ≡ 2 → (u : Binary) × (operator b ≡ Some (Bin u))
unfolding pops_of
is-binary b h = go (operator b) refl h
  where
    go : (o : Option Token) → operator b ≡ o → popped o ≡ 2 → (u : Binary) × (o ≡ Some (Bin u))
    go None f q = absurd (omega arith)
    go (Some (Const k)) f q = absurd (omega arith)
    go (Some (Symbol k)) f q = absurd (omega arith)
    go (Some (Un u)) f q = absurd (omega arith)
    go (Some (Bin u)) f q = (u, refl)
    go (Some Ite) f q = absurd (omega arith)

-- the codes that an operator of each kind has
module _ (b : ℕ) (h : b < 256) (s : 0 < pops_of b) where
  pub unary-code : b < 0x20 → (0x10 ≤ b) × (b < 0x13)
  unary-code l = go (ltb b 0x10) refl (ltb b 0x13) refl (pops-by_range b h)
    where
      go : (x : Bool) → ltb b 0x10 ≡ x → (y : Bool) → ltb b 0x13 ≡ y
          → pops_of b ≡ cond x 0 (cond y 1 (cond (ltb b 0x20) 0 (cond (ltb b 0x2E) 2 (cond (eqb b 0x30) 3 0)))) → (0x10 ≤ b) × (b < 0x13)
      go true e y f q = absurd (omega arith)
      go false e true f q = (ltb-false b 0x10 e, ltb-true b 0x13 f)
      go false e false f q = absurd (let z : pops_of b ≡ 0 = q ∙ rw (lt-ltb b 0x20 l) in omega arith)

  pub binary-code : 0x20 ≤ b → b < 0x30 → (b < 0x2E) × (pops_of b ≡ 2)
  binary-code l m =
      go (ltb b 0x2E) refl (pops-by_range b h ∙ rw (le-ltb b 0x10 (omega arith), le-ltb b 0x13 (omega arith), le-ltb b 0x20 l))
    where
      go : (x : Bool) → ltb b 0x2E ≡ x → pops_of b ≡ cond x 2 (cond (eqb b 0x30) 3 0) → (b < 0x2E) × (pops_of b ≡ 2)
      go true e q = (ltb-true b 0x2E e, q)
      go false e q = absurd (let z : pops_of b ≡ 0 = q ∙ rw (ne_eqb b 0x30 (λ e. omega arith)) in omega arith)

  pub ite-code : 0x30 ≤ b → (b ≡ 0x30) × (pops_of b ≡ 3)
  ite-code l =
      go (eqb b 0x30) refl (pops-by_range b h
      ∙ rw (le-ltb b 0x10 (omega arith), le-ltb b 0x13 (omega arith), le-ltb b 0x20 (omega arith), le-ltb b 0x2E (omega arith)))
    where
      go : (x : Bool) → eqb b 0x30 ≡ x → pops_of b ≡ cond x 3 0 → (b ≡ 0x30) × (pops_of b ≡ 3)
      go true e q = (eqb-true b 0x30 e, q)
      go false e q = absurd (omega arith)

-- none of the n numbers from a on, as a match with these keys tells it, beside what it told before
abbrev pub Apart : (told : Type 0) (b a n : ℕ) → Type 0
Apart told b a zero = told
Apart told b a (suc n) = Apart told b a n × (b ≡ a + n → ⊥)

module _ (told : Type 0) (b a : ℕ) where
  pub above : (n : ℕ) → Apart told b a n → a ≤ b → a + n ≤ b
  above zero r h = omega arith
  above (suc n) r h = let l = above n r.0 h in let m = r.1 in omega (arith, l, m)

  pub told-before : (n : ℕ) → Apart told b a n → told
  told-before zero r = r
  told-before (suc n) r = told-before n r.0

-- of a match on the codes of all unary and binary operators the choice's is left
pub only-ite : (b : ℕ) → b < 256 → 0 < pops_of b → Apart (Apart (Unit {0}) b 0x10 3) b 0x20 14 → b ≡ 0x30
only-ite b h s r = go (ltb b 0x20) refl (ltb b 0x30) refl
  where
    unary : Type 0
    unary = Apart (Unit {0}) b 0x10 3

    go : (x : Bool) → ltb b 0x20 ≡ x → (y : Bool) → ltb b 0x30 ≡ y → b ≡ 0x30
    go true e y f = let k = unary-code b h s (ltb-true b 0x20 e) in
        absurd (omega (arith, k.1, above (Unit {0}) b 0x10 3 (told-before unary b 0x20 14 r) k.0))
    go false e true f = let l = ltb-false b 0x20 e in let k = binary-code b h s l (ltb-true b 0x30 f) in
        absurd (omega (arith, k.0, above unary b 0x20 14 r l))
    go false e false f = (ite-code b h s (ltb-false b 0x30 f)).0
