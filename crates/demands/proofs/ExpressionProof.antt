-- An expression's rules over its bytes are the reader's, in three steps. The reader finds a token that fits exactly where one keeps the
-- rules (`keeps-fits`, `fits-keeps`): constants and symbols by their codes, operators by what they pop. So it reads past tokens that keep
-- them without another answer (`kept_same`): where the rules break it breaks, which can be at one place only. And walking on as long as
-- a token keeps them comes to the end with one word, or to a place where they break (`walked`).
use Prim.Native.Nat.{ℕ, zero, suc, ◌+◌, ◌-◌, ◌≤◌, ◌<◌}
use native.Mathlib.Omega.{arith}
use native.Mathlib.Decide.{dec_lt}
use mathlib.Core.Path.{◌≡◌, refl, sym, ap, ap₂, ◌∙◌, subst}
use mathlib.Core.Logic.{◌⊎◌, inl, inr}
use mathlib.Core.Bool.{Bool, true, false, cond}
use Rattle.std.specs.Prelude.{Option, None, Some}
use mathlib.Core.List.{List, []}
use lib.ListN.{length, drop, get_or, length-drop, get_or-eq_default, drop_of_length-le}
use lib.Dec.{eqb, ltb}
use borrow.Author.Tests.{eqb-true, eqb-false, ne_eqb, lt-ltb, le-ltb}
use Rattle.expr.specs.declared.File.{File}
use Rattle.expr.specs.declared.File.TheVariants.{Table, Trace}
use Rattle.expr.specs.declared.word.Unary.{Unary}
use Rattle.expr.specs.declared.word.Unary.TheVariants.{Not, Neg, Zero}
use Rattle.expr.specs.declared.word.Binary.{Binary}
use Rattle.expr.specs.declared.word.Binary.TheVariants.{Add, Sub, Mul, Udiv, Urem, And, Or, Xor, Shl, Lshr, Equal, Ult, Ule, Slt}
use Rattle.expr.specs.Number.{number_of}
use Rattle.expr.specs.declared.token.Token.{Token}
use Rattle.expr.specs.declared.token.Token.TheVariants.{Const, Symbol, Un, Bin, Ite}
use Rattle.expr.specs.Token.{symbol_code, symbol_width, unary_code, binary_code, code, operand_count}
use Rattle.expr.specs.Token.{operator, read_token}
use Rattle.expr.specs.TokenLaws.{IsOperator, operator-is, operator-count}
use Rattle.expr.specs.Expr.{depth_limit, pops, after, fits, Parsed, Whole, Breaks, also, on_token, parse_from, parse}
use Rattle.expr.proofs.ExprLaws.{fits-is, fits_const, fits-symbol, fits-operator, on-token, token-at, end-at}
use Rattle.expr.proofs.Standing.{popped, pops_of, pops-by_range, pops-ite}
use Rattle.expr.proofs.Reading.{constant-there, constant-short, symbol-there, symbol-short, operator-there}
use Rattle.demands.specs.Expression.{symbol_byte, symbol_bytes, most_words, Keeps, constant, symbol, unary, binary, ite, Kept, nothing}
use Rattle.demands.specs.Expression.{token}
use Rattle.demands.specs.Expression.{IsExpr, BreaksAt, at-token, at-end}

same-limit : (F : File) → most_words F ≡ depth_limit F
same-limit Table = refl
same-limit Trace = refl

same_code : (F : File) → symbol_byte F ≡ symbol_code F
same_code Table = refl
same_code Trace = refl

same_width : (F : File) → symbol_bytes F ≡ symbol_width F
same_width Table = refl
same_width Trace = refl

-- ---- operators by their codes

unary-code : (o : Unary) → (0x10 ≤ unary_code o) × (unary_code o ≤ 0x12)
unary-code Not = (omega arith, omega arith)
unary-code Neg = (omega arith, omega arith)
unary-code Zero = (omega arith, omega arith)

binary-code : (o : Binary) → (0x20 ≤ binary_code o) × (binary_code o ≤ 0x2D)
binary-code Add = (omega arith, omega arith)
binary-code Sub = (omega arith, omega arith)
binary-code Mul = (omega arith, omega arith)
binary-code Udiv = (omega arith, omega arith)
binary-code Urem = (omega arith, omega arith)
binary-code And = (omega arith, omega arith)
binary-code Or = (omega arith, omega arith)
binary-code Xor = (omega arith, omega arith)
binary-code Shl = (omega arith, omega arith)
binary-code Lshr = (omega arith, omega arith)
binary-code Equal = (omega arith, omega arith)
binary-code Ult = (omega arith, omega arith)
binary-code Ule = (omega arith, omega arith)
binary-code Slt = (omega arith, omega arith)

symbol-code-low : (F : File) → symbol_code F ≤ 3
symbol-code-low Table = omega arith
symbol-code-low Trace = omega arith

some_same : {A : Type 0} {a b : A} → Some a ≡ Some b → a ≡ b
some_same h = cc

-- a byte that pops is an operator's
record Operates (b : ℕ) : Type 0 where
  acts : Token
  by : operator b ≡ Some acts
  operates : IsOperator acts
  popping : pops acts ≡ pops_of b

operates : (b p : ℕ) → pops_of b ≡ p → 0 < p → Operates b
unfolding pops_of
operates b p e h = go (operator b) refl
  where
    go : (o : Option Token) → operator b ≡ o → Operates b
    go None q = absurd (omega (arith, e, ap popped q))
    go (Some t) q = record { acts = t; by = q; operates = (operator-is b t q).1; popping = sym (ap popped q) }

-- ---- one token

-- a byte that is not 0 is there
some_byte : (e : List ℕ) (i : ℕ) → 0 < get_or e i 0 → i < length e
some_byte e i h =
    elim (dec_lt i (length e)) [ yes l ↦ l | no l ↦ absurd (omega (arith, get_or-eq_default e 0 {n = i} (omega arith))) ]

module _ (F : File) (may : ℕ → Bool) (e : List ℕ) (i d : ℕ) where
  keeps-inside : (size left : ℕ) → Keeps F may e i d size left → i + size ≤ length e
  keeps-inside size left (constant b l r) = l
  keeps-inside size left (symbol b l r m) = l
  keeps-inside size left (unary b l r) = omega (arith, some_byte e i (omega arith))
  keeps-inside size left (binary b l r) = omega (arith, some_byte e i (omega arith))
  keeps-inside size left (ite b r) = omega (arith, some_byte e i (omega arith))

  -- the token that the reader finds, of so many bytes and leaving so many words
  record Found (size left : ℕ) : Type 0 where
    found : Token
    is_read : read_token F (drop i e) ≡ Some found
    fit : fits may (depth_limit F) d found ≡ true
    bytes : suc (operand_count F found) ≡ size
    leaves : after d found ≡ left

  module _ (few : d ≤ depth_limit F) where
    found-operator : (p left : ℕ) → pops_of (get_or e i 0) ≡ p → 3 < get_or e i 0 → 0 < p → p ≤ d → suc (d - p) ≡ left → Found 1 left
    found-operator p left q high h l z =
        let o = operates (get_or e i 0) p q h in
        let t = o.acts in
        let same : pops t ≡ p = o.popping ∙ q in
        record {
          found = t;
          is_read =
              operator-there F e i (some_byte e i (omega arith)) (λ u. omega arith) (λ u. omega (arith, symbol-code-low F))
              ∙ o.by;
          fit = fits-operator may t o.operates (omega arith) few;
          bytes = ap suc (operator-count F t o.operates);
          leaves = ap (λ p. suc (d - p)) same ∙ z;
        }

    keeps-fits : (size left : ℕ) → Keeps F may e i d size left → Found size left
    keeps-fits size left (constant b l r) = record {
      found = Const (number_of 4 (drop (i + 1) e));
      is_read = constant-there F e i (omega arith) b (omega arith);
      fit = fits_const may (number_of 4 (drop (i + 1) e)) (omega (arith, same-limit F));
      bytes = refl;
      leaves = omega arith;
    }
    keeps-fits size left (symbol b l r m) =
        let x = number_of (symbol_width F) (drop (i + 1) e) in
        record {
          found = Symbol x;
          is_read = symbol-there F e i (omega arith) (b ∙ same_code F) (omega (arith, same_width F));
          fit = fits-symbol may x (omega (arith, same-limit F)) (ap (λ w. may (number_of w (drop (i + 1) e))) (sym (same_width F)) ∙ m);
          bytes = (let z : suc (symbol_width F) ≡ 1 + symbol_bytes F = omega (arith, same_width F) in z);
          leaves = omega arith;
        }
    keeps-fits size left (unary b l r) =
        found-operator 1 d
        (rw (pops-by_range (get_or e i 0) (omega arith), le-ltb (get_or e i 0) 0x10 b, lt-ltb (get_or e i 0) 0x13 (omega arith)))
        (omega arith) (omega arith) r (omega arith)
    keeps-fits size left (binary b l r) =
        found-operator 2 (d - 1)
        (rw (
          pops-by_range (get_or e i 0) (omega arith),
          le-ltb (get_or e i 0) 0x10 (omega arith),
          le-ltb (get_or e i 0) 0x13 (omega arith),
          le-ltb (get_or e i 0) 0x20 b,
          lt-ltb (get_or e i 0) 0x2E (omega arith),
        ))
        (omega arith) (omega arith) r (omega arith)
    keeps-fits size left (ite b r) =
        found-operator 3 (d - 2) (ap pops_of b ∙ pops-ite) (omega arith) (omega arith) r (omega arith)

  -- some token keeps the rules
  abbrev SomeKeeps : Type 0
  SomeKeeps = (size : ℕ) × (left : ℕ) × Keeps F may e i d size left

  module _ (h : i < length e) (t : Token) (read : read_token F (drop i e) ≡ Some t) (fit : fits may (depth_limit F) d t ≡ true) where
    -- what is not there is not read
    there : (k : ℕ) → (length e - i - 1 < k → read_token F (drop i e) ≡ None) → k ≤ length e - i - 1
    there k short =
        elim (dec_lt (length e - i - 1) k) [
          | yes l ↦ absurd (let q = sym read ∙ short l in let z : ◌≡◌ {A = ℕ} 0 1 = cc in omega arith)
          | no l ↦ omega arith
        ]

    keeps-constant : get_or e i 0 ≡ 1 → SomeKeeps
    keeps-constant b =
        let l = there 4 (constant-short F e i h b) in
        let q : t ≡ Const (number_of 4 (drop (i + 1) e)) = some_same (sym read ∙ constant-there F e i h b l) in
        let r : suc (d - 0) ≤ depth_limit F = (fits-is may (depth_limit F) d (Const (number_of 4 (drop (i + 1) e)))
        (subst (λ t. fits may (depth_limit F) d t ≡ true) q fit)).room in
        (5, d + 1, constant b (omega arith) (omega (arith, same-limit F)))

    keeps-symbol : get_or e i 0 ≡ symbol_code F → SomeKeeps
    keeps-symbol b =
        let l = there (symbol_width F) (symbol-short F e i h b) in
        let x = number_of (symbol_width F) (drop (i + 1) e) in
        let q : t ≡ Symbol (number_of (symbol_width F) (drop (i + 1) e)) = some_same (sym read ∙ symbol-there F e i h b l) in
        let f = fits-is may (depth_limit F) d (Symbol x) (subst (λ t. fits may (depth_limit F) d t ≡ true) q fit) in (
          1 + symbol_bytes F,
          d + 1,
          symbol (b ∙ sym (same_code F)) (omega (arith, same_width F)) (omega (arith, same-limit F, f.room))
              (ap (λ w. may (number_of w (drop (i + 1) e))) (same_width F) ∙ f.known),
        )

    keeps-operator : (get_or e i 0 ≡ 1 → ⊥) → (get_or e i 0 ≡ symbol_code F → ⊥) → SomeKeeps
    keeps-operator m n =
        let o = operator-is (get_or e i 0) t (sym (operator-there F e i h m n) ∙ read) in
        go t o.0 o.1 (fits-is may (depth_limit F) d t fit).enough
      where
        go : (t : Token) → get_or e i 0 ≡ code Table t → IsOperator t → pops t ≤ d → SomeKeeps
        go (Const n) b o l = absurd o
        go (Symbol s) b o l = absurd o
        go (Un u) b o l = let c = unary-code u in (1, d, unary (omega (arith, c.0)) (omega (arith, c.1)) l)
        go (Bin u) b o l = let c = binary-code u in (1, d - 1, binary (omega (arith, c.0)) (omega (arith, c.1)) l)
        go Ite b o l = (1, d - 2, ite b l)

    fits-keeps : SomeKeeps
    fits-keeps = go (eqb (get_or e i 0) 1) refl (eqb (get_or e i 0) (symbol_code F)) refl
      where
        go : (x : Bool) → eqb (get_or e i 0) 1 ≡ x → (y : Bool) → eqb (get_or e i 0) (symbol_code F) ≡ y → SomeKeeps
        go true p y q = keeps-constant (eqb-true (get_or e i 0) 1 p)
        go false p true q = keeps-symbol (eqb-true (get_or e i 0) (symbol_code F) q)
        go false p false q = keeps-operator (eqb-false (get_or e i 0) 1 p) (eqb-false (get_or e i 0) (symbol_code F) q)

-- ---- token after token

-- the bytes that an expression breaks at
abbrev broken_in : Parsed → Option (List ℕ)
broken_in (Whole t) = None
broken_in (Breaks bs) = Some bs

broken_also : (t : Token) (p : Parsed) → broken_in (also t p) ≡ broken_in p
broken_also t (Whole e) = refl
broken_also t (Breaks bs) = refl

broken_is : (p : Parsed) (bs : List ℕ) → broken_in p ≡ Some bs → p ≡ Breaks bs
broken_is (Whole e) bs h = absurd (let z : ◌≡◌ {A = ℕ} 0 1 = cc in omega arith)
broken_is (Breaks xs) bs h = ap {B = Parsed} Breaks (some_same h)

module _ (F : File) (may : ℕ → Bool) (e : List ℕ) where
  kept-inside : (i d : ℕ) → Kept F may e i d → i ≤ length e
  kept-inside i d nothing = omega arith
  kept-inside i d (token j c size left k s) = keeps-inside F may e j c size left s

  keeps-few : (i d size left : ℕ) → Keeps F may e i d size left → d ≤ most_words F → left ≤ most_words F
  keeps-few i d size left (constant b l r) h = omega arith
  keeps-few i d size left (symbol b l r m) h = omega arith
  keeps-few i d size left (unary b l r) h = h
  keeps-few i d size left (binary b l r) h = omega arith
  keeps-few i d size left (ite b r) h = omega arith

  kept-few : (i d : ℕ) → Kept F may e i d → d ≤ most_words F
  kept-few i d nothing = omega arith
  kept-few i d (token j c size left k s) = keeps-few j c size left s (kept-few j c k)

  few_words : (i d : ℕ) → Kept F may e i d → d ≤ depth_limit F
  few_words i d k = omega (arith, kept-few i d k, same-limit F)

  keeps_same : (i d size left : ℕ) → d ≤ depth_limit F → Keeps F may e i d size left
      → broken_in (parse_from F may left 0 (drop (i + size) e)) ≡ broken_in (parse_from F may d 0 (drop i e))
  keeps_same i d size left few s =
      let f = keeps-fits F may e i d few size left s in
      let t = f.found in
      let on : ℕ → ℕ → Parsed = λ c m. parse_from F may c 0 (drop (i + suc m) e) in
      sym (
      ap broken_in (token-at F may d e i (omega (arith, keeps-inside F may e i d size left s, f.bytes))
      ∙ ap (λ o. on_token F may d (drop i e) o on) f.is_read
      ∙ on-token F may d (drop i e) t on f.fit)
      ∙ broken_also t (on (after d t) (operand_count F t))
      ∙ ap₂ (λ c m. broken_in (parse_from F may c 0 (drop (i + m) e))) f.leaves f.bytes)

  kept_same : (i d : ℕ) → Kept F may e i d → broken_in (parse_from F may d 0 (drop i e)) ≡ broken_in (parse F may e)
  kept_same i d nothing = refl
  kept_same i d (token j c size left k s) = keeps_same j c size left (few_words j c k) s ∙ kept_same j c k

  -- no token that keeps the rules is no token that fits
  stuck : (i d : ℕ) → i < length e → ((size left : ℕ) → Keeps F may e i d size left → ⊥)
      → parse_from F may d 0 (drop i e) ≡ Breaks (drop i e)
  stuck i d h none-keeps = token-at F may d e i h ∙ go (read_token F (drop i e)) refl
    where
      on : ℕ → ℕ → Parsed
      on c m = parse_from F may c 0 (drop (i + suc m) e)

      fit : (t : Token) → read_token F (drop i e) ≡ Some t → (x : Bool) → fits may (depth_limit F) d t ≡ x
          → cond x (also t (on (after d t) (operand_count F t))) (Breaks (drop i e)) ≡ Breaks (drop i e)
      fit t q true f = absurd (let k = fits-keeps F may e i d h t q f in none-keeps k.0 k.1 k.2)
      fit t q false f = refl

      go : (o : Option Token) → read_token F (drop i e) ≡ o → on_token F may d (drop i e) o on ≡ Breaks (drop i e)
      go None q = refl
      go (Some t) q = fit t q (fits may (depth_limit F) d t) refl

  -- where the rules break, reading does
  breaks_reading : (i : ℕ) → BreaksAt F may e i → (parse F may e ≡ Breaks (drop i e)) × (i ≤ length e)
  breaks_reading i (at-token d k h none-keeps) =
      (broken_is (parse F may e) (drop i e) (sym (kept_same i d k) ∙ ap broken_in (stuck i d h none-keeps)), kept-inside i d k)
  breaks_reading i (at-end d k is other) = (
    broken_is (parse F may e) (drop i e) (
        sym (kept_same i d k)
        ∙ ap broken_in (end-at F may d e i (omega arith) ∙ ap (λ b. cond b (Whole []) (Breaks [])) (ne_eqb d 1 other))
        ∙ ap Some (sym (drop_of_length-le e {i = i} (omega arith)))),
    kept-inside i d k,
  )

  -- at one place only
  pub breaks-once : (i j : ℕ) → BreaksAt F may e i → BreaksAt F may e j → i ≡ j
  breaks-once i j b c =
      let p = breaks_reading i b in
      let q = breaks_reading j c in
      let same = some_same (ap broken_in (sym p.0 ∙ q.0)) in
      omega (arith, p.1, q.1, ap length same, length-drop i e, length-drop j e)

  -- and not in an expression
  whole_reading : IsExpr F may e → broken_in (parse F may e) ≡ None
  whole_reading k = sym (kept_same (length e) 1 k) ∙ ap broken_in (end-at F may 1 e (length e) (omega arith))

  pub unbroken : IsExpr F may e → (i : ℕ) → BreaksAt F may e i → ⊥
  unbroken k i b =
      let q = sym (whole_reading k) ∙ ap broken_in (breaks_reading i b).0 in let z : ◌≡◌ {A = ℕ} 0 1 = cc in omega arith

  -- ---- to the end, or to where they break

  abbrev Decides : Type 0
  Decides = IsExpr F may e ⊎ ((i : ℕ) × BreaksAt F may e i)

  ended : (i d : ℕ) → Kept F may e i d → i ≡ length e → Decides
  ended i d k is = go (eqb d 1) refl
    where
      go : (x : Bool) → eqb d 1 ≡ x → Decides
      go true q = inl (subst (λ c. Kept F may e (length e) c) (eqb-true d 1 q) (subst (λ j. Kept F may e j d) is k))
      go false q = inr (i, at-end d k is (eqb-false d 1 q))

  -- past a token that keeps the rules, with at most m bytes left behind it
  past : (m i d : ℕ) → Kept F may e i d → i < length e → length e ≤ i + suc m
      → ((j c : ℕ) → Kept F may e j c → length e ≤ j + m → Decides) → Decides
  past m i d k h l on = go (read_token F (drop i e)) refl
    where
      keeps : (size left : ℕ) → Keeps F may e i d size left → Found F may e i d size left
      keeps = keeps-fits F may e i d (few_words i d k)

      fit : (t : Token) → read_token F (drop i e) ≡ Some t → (x : Bool) → fits may (depth_limit F) d t ≡ x → Decides
      fit t q true f =
          let s = fits-keeps F may e i d h t q f in
          let size = (keeps s.0 s.1 s.2).bytes in
          on (i + s.0) s.1 (token i d s.0 s.1 k s.2) (omega arith)
      fit t q false f = inr (
        i,
        at-token d k h (λ size left s.
            let w = keeps size left s in
            let same : w.found ≡ t = some_same (sym w.is_read ∙ q) in
            let p = sym f ∙ subst (λ t. fits may (depth_limit F) d t ≡ true) same w.fit in
            let z : ◌≡◌ {A = ℕ} 0 1 = cc in omega arith),
      )

      go : (o : Option Token) → read_token F (drop i e) ≡ o → Decides
      go None q = inr (
        i,
        at-token d k h (λ size left s.
            let p = sym q ∙ (keeps size left s).is_read in let z : ◌≡◌ {A = ℕ} 0 1 = cc in omega arith),
      )
      go (Some t) q = fit t q (fits may (depth_limit F) d t) refl

  walked : (m i d : ℕ) → Kept F may e i d → length e ≤ i + m → Decides
  walked zero i d k l = ended i d k (omega (arith, kept-inside i d k))
  walked (suc m) i d k l =
      elim (dec_lt i (length e)) [
        | yes h ↦ past m i d k h l (walked m)
        | no h ↦ ended i d k (omega (arith, kept-inside i d k))
      ]

  pub decides : IsExpr F may e ⊎ ((i : ℕ) × BreaksAt F may e i)
  decides = walked (length e) 0 0 nothing (omega arith)

  -- where reading breaks, the rules do
  pub reading_breaks : (rest : List ℕ) → parse F may e ≡ Breaks rest → (i : ℕ) × BreaksAt F may e i × (rest ≡ drop i e) × (i ≤ length e)
  reading_breaks rest h = go decides
    where
      go : Decides → (i : ℕ) × BreaksAt F may e i × (rest ≡ drop i e) × (i ≤ length e)
      go (inl k) = absurd (let q = sym (whole_reading k) ∙ ap broken_in h in let z : ◌≡◌ {A = ℕ} 0 1 = cc in omega arith)
      go (inr (i, b)) = let r = breaks_reading i b in (i, b, some_same (ap broken_in (sym h ∙ r.0)), r.1)

  pub reading_whole : (t : List Token) → parse F may e ≡ Whole t → (i : ℕ) → BreaksAt F may e i → ⊥
  reading_whole t h i b =
      let q = ap broken_in (sym h ∙ (breaks_reading i b).0) in let z : ◌≡◌ {A = ℕ} 0 1 = cc in omega arith
