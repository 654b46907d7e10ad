-- What each operator computes, over the width and without the operator's text: on words, no other function meets the laws. Those of
-- not, and, or and xor, bit by bit, are in `WordLaws`, and so is that every operator gives a word.
use Rattle.std.specs.Prelude.{◌≡◌, ℕ, zero, suc, ◌+◌, ◌-◌, ◌*◌, ◌/◌, ◌%◌, ◌^◌, ◌<◌, ◌≤◌, Bool, true, false, cond, ◌≢◌, ◌⊎◌, ◌==◌, bit_and}
use Rattle.std.specs.Prelude.{nat_le, nat_lt}
use Rattle.std.proofs.Common.{arith, add-suc, zero-add, add_comm, mul-suc, mul_assoc, pow-suc, lt_of_lt_of_le, mod-lt, div-one}
use Rattle.std.proofs.Common.{div-add-mod', add-one, one-add, sym, ◌∙◌, inl, inr, pow-add, pow_mono, shr-shr}
use Rattle.std.proofs.Math.Nat.{add-zero, mul-zero, zero-mod, mod-eq_of_lt, mod_self, suc-mod, mod-add-mod, add-mod_right, zero-div}
use Rattle.std.proofs.Math.Nat.{div-eq_of_lt}
use Rattle.std.proofs.Math.Path.{refl, ap}
use Rattle.std.proofs.Math.Arith.{lt_of_le-ne, digits_div, digits_mod}
use Rattle.std.proofs.lemmas.Nat.{shl-shr}
use Rattle.std.proofs.Math.Pow.{field, mod-mod-pow}
use Rattle.std.specs.Int.Bits.{shifted_even}
use borrow.Author.Tests.{ltb-true, ltb-false, lt-ltb, le-ltb, leb-true, leb-false, le-leb, lt-leb, eqb-true, eqb-false, eq-eqb, ne_eqb}
use Rattle.expr.specs.declared.word.Unary.TheVariants.{Neg, Zero}
use Rattle.expr.specs.declared.word.Binary.TheVariants.{Add, Sub, Mul, Udiv, Urem, And, Shl, Lshr, Equal, Ult, Ule, Slt}
use Rattle.expr.specs.Word.{test, unary, binary, choice, bit}
use Rattle.expr.specs.WordLaws.{raised, same_ltb, halved, slt_raised}

-- ---- add: counts on from a, b times; after 2 ^ w - 1 comes 0

module _ (w a : ℕ) where
  pub add_nothing : a < 2 ^ w → binary w Add a 0 ≡ a
  unfolding binary
  add_nothing h = rw add-zero (mod-eq_of_lt h)

  next : (b : ℕ) → (a + (b + 1)) % 2 ^ w ≡ ((a + b) % 2 ^ w + 1) % 2 ^ w
  next b = rw (add-one b, add-one ((a + b) % 2 ^ w), add-suc) (suc-mod (a + b) (2 ^ w))

  pub add_one-more : (b : ℕ) → binary w Add a b + 1 < 2 ^ w → binary w Add a (b + 1) ≡ binary w Add a b + 1
  unfolding binary
  add_one-more b h = next b ∙ mod-eq_of_lt h

  pub add_goes_round : (b : ℕ) → binary w Add a b + 1 ≡ 2 ^ w → binary w Add a (b + 1) ≡ 0
  unfolding binary
  add_goes_round b e = next b ∙ ap (λ n. n % 2 ^ w) e ∙ mod_self (2 ^ w)

-- ---- sub: it and add undo each other

module _ (w a b : ℕ) (h : a < 2 ^ w) (k : b < 2 ^ w) where
  whole_round : {n : ℕ} → n ≡ a + 2 ^ w → n % 2 ^ w ≡ a
  whole_round e = ap (λ n. n % 2 ^ w) e ∙ add-mod_right a (2 ^ w) ∙ mod-eq_of_lt h

  pub add_undoes_sub : binary w Add (binary w Sub a b) b ≡ a
  unfolding binary
  add_undoes_sub = mod-add-mod (a + (2 ^ w - b)) (2 ^ w) b ∙ whole_round (omega arith)

  pub sub_undoes_add : binary w Sub (binary w Add a b) b ≡ a
  unfolding binary
  sub_undoes_add = mod-add-mod (a + b) (2 ^ w) (2 ^ w - b) ∙ whole_round (omega arith)

-- ---- neg: 0 minus

pub neg_is_sub : (w a : ℕ) → unary w Neg a ≡ binary w Sub 0 a
unfolding unary binary
neg_is_sub w a = rw zero-add

-- ---- mul: adds a, b times

module _ (w a : ℕ) where
  pub mul_by_zero : binary w Mul a 0 ≡ 0
  unfolding binary
  mul_by_zero = rw mul-zero (zero-mod (2 ^ w))

  pub mul_once-more : (b : ℕ) → binary w Mul a (b + 1) ≡ binary w Add (binary w Mul a b) a
  unfolding binary
  mul_once-more b = rw (add-one, mul-suc) (sym (mod-add-mod (a * b) (2 ^ w) a))

-- ---- udiv and urem: quotient and remainder rebuild the dividend, by zero too, and the remainder is below any other divisor

pub udiv_urem_rebuild : (w a b : ℕ) → binary w Udiv a b * b + binary w Urem a b ≡ a
unfolding binary
udiv_urem_rebuild w a zero = rw mul-zero (zero-add a)
udiv_urem_rebuild w a (suc b) = rw (ne_eqb (suc b) 0 (λ e. omega arith)) (div-add-mod' a (suc b))

pub urem_below_divisor : (w a b : ℕ) → b ≢ 0 → binary w Urem a b < b
unfolding binary
urem_below_divisor w a b h = rw (ne_eqb b 0 h) (mod-lt a (omega arith))

pub udiv_by_zero_all_ones : (w a : ℕ) → binary w Udiv a 0 ≡ 2 ^ w - 1
unfolding binary
udiv_by_zero_all_ones w a = refl

pub urem_by_zero_dividend : (w a : ℕ) → binary w Urem a 0 ≡ a
unfolding binary
urem_by_zero_dividend w a = refl

-- ---- words by their bits

pub no_bit-above : (w i a : ℕ) → a < 2 ^ w → w ≤ i → bit i a ≡ 0
no_bit-above w i a h k = ap (λ n. n % 2) (div-eq_of_lt (lt_of_lt_of_le h (pow_mono k)))

-- so that laws bit by bit leave no choice
pub same-bits-same_word : (w : ℕ) {a b : ℕ} → a < 2 ^ w → b < 2 ^ w → ((i : ℕ) → i < w → bit i a ≡ bit i b) → a ≡ b
same-bits-same_word zero h k e = omega arith
same-bits-same_word (suc w) {a} {b} h k e =
    let halves : a / 2 ≡ b / 2 = same-bits-same_word w (half h) (half k) (λ i l. up a i ∙ e (suc i) (omega arith) ∙ sym (up b i)) in
    let lowest : a % 2 ≡ b % 2 = ap (λ n. n % 2) (sym (div-one a)) ∙ e 0 (omega arith) ∙ ap (λ n. n % 2) (div-one b) in
    omega arith
  where
    half : {n : ℕ} → n < 2 ^ suc w → n / 2 < 2 ^ w
    half l = omega (arith, pow-suc 2 w)

    up : (n i : ℕ) → bit i (n / 2) ≡ bit (suc i) n
    up n i = ap (λ x. x % 2) (shr-shr n 1 i ∙ ap (λ x. n / 2 ^ x) (one-add i))

-- ---- shl: every bit b places up; what is at w or above is lost, what comes in is 0

-- a number cut down to a word keeps its bits below w
cut-bit : (w i n : ℕ) → i < w → bit i (n % 2 ^ w) ≡ bit i n
cut-bit w i n h =
    let j = w - i - 1 in
    let e : w ≡ j + 1 + i = omega arith in
    ap (λ x. n % 2 ^ x / 2 ^ i % 2) e ∙ ap (λ x. x % 2) (field n (j + 1) i) ∙ mod-mod-pow (n / 2 ^ i) j 1

module _ (i a b : ℕ) where
  pub moved_bit : b ≤ i → bit i (a * 2 ^ b) ≡ bit (i - b) a
  moved_bit l =
      let e : i ≡ b + (i - b) = omega arith in
      ap (λ x. a * 2 ^ b / 2 ^ x % 2) e ∙ ap (λ x. x % 2) (sym (shr-shr (a * 2 ^ b) b (i - b)) ∙ ap (λ x. x / 2 ^ (i - b)) (shl-shr a b))

  pub bit_moved_in : i < b → bit i (a * 2 ^ b) ≡ 0
  bit_moved_in l =
      let j = b - i - 1 in
      let e : b ≡ suc j + i = omega arith in
      let power : 2 ^ b ≡ 2 ^ suc j * 2 ^ i = ap (λ x. 2 ^ x) e ∙ pow-add 2 (suc j) i in
      let parts : a * 2 ^ b ≡ a * 2 ^ suc j * 2 ^ i = ap (λ x. a * x) power ∙ sym (mul_assoc a (2 ^ suc j) (2 ^ i)) in
      ap (λ x. x / 2 ^ i % 2) parts ∙ ap (λ x. x % 2) (shl-shr (a * 2 ^ suc j) i) ∙ shifted_even a j

module _ (w i a b : ℕ) where
  pub shl_bit : b ≤ i → i < w → bit i (binary w Shl a b) ≡ bit (i - b) a
  unfolding binary
  shl_bit l h = rw (lt-ltb b w (omega arith)) (cut-bit w i (a * 2 ^ b) h ∙ moved_bit i a b l)

  pub shl_bit-below : i < b → bit i (binary w Shl a b) ≡ 0
  unfolding binary
  shl_bit-below l = go (nat_lt b w) refl
    where
      go : (t : Bool) → nat_lt b w ≡ t → bit i (cond t (a * 2 ^ b % 2 ^ w) 0) ≡ 0
      go true e = cut-bit w i (a * 2 ^ b) (omega (arith, ltb-true b w e)) ∙ bit_moved_in i a b l
      go false e = ap (λ x. x % 2) (zero-div (2 ^ i))

pub shl_by_width_zero : (w a b : ℕ) → w ≤ b → binary w Shl a b ≡ 0
unfolding binary
shl_by_width_zero w a b h = rw (le-ltb b w h)

-- ---- lshr: every bit b places down; what is below b is lost, what comes in is 0

pub lshr_bit : (w i a b : ℕ) → a < 2 ^ w → bit i (binary w Lshr a b) ≡ bit (i + b) a
unfolding binary
lshr_bit w i a b h = go (nat_lt b w) refl
  where
    go : (t : Bool) → nat_lt b w ≡ t → bit i (cond t (a / 2 ^ b) 0) ≡ bit (i + b) a
    go true e = ap (λ x. x % 2) (shr-shr a b i ∙ ap (λ x. a / 2 ^ x) (add_comm b i))
    go false e = ap (λ x. x % 2) (zero-div (2 ^ i)) ∙ sym (no_bit-above w (i + b) a h (omega (arith, ltb-false b w e)))

pub lshr_by_width_zero : (w a b : ℕ) → w ≤ b → binary w Lshr a b ≡ 0
unfolding binary
lshr_by_width_zero w a b h = rw (le-ltb b w h)

-- ---- zero: 1 of 0, else 0

pub zero_of_zero : (w : ℕ) → unary w Zero 0 ≡ 1
unfolding unary
zero_of_zero w = refl

pub zero_of_another : (w a : ℕ) → a ≢ 0 → unary w Zero a ≡ 0
unfolding unary
zero_of_another w a h = rw (ne_eqb a 0 h)

pub zero_tests : (w a : ℕ) → unary w Zero a ≡ test (a == 0)
zero_tests w a = go (a == 0) refl
  where
    go : (t : Bool) → (a == 0) ≡ t → unary w Zero a ≡ test t
    go true e = ap (unary w Zero) (eqb-true a 0 e) ∙ zero_of_zero w
    go false e = zero_of_another w a (eqb-false a 0 e)

-- ---- equal: 1 if the words are equal, else 0

pub equal_holds : (w a b : ℕ) → a ≡ b → binary w Equal a b ≡ 1
unfolding binary
equal_holds w a b e = rw (eq-eqb a b e)

pub equal_fails : (w a b : ℕ) → a ≢ b → binary w Equal a b ≡ 0
unfolding binary
equal_fails w a b h = rw (ne_eqb a b h)

-- ---- ule: 1 if a ≤ b, else 0

pub ule_holds : (w a b : ℕ) → a ≤ b → binary w Ule a b ≡ 1
unfolding binary
ule_holds w a b h = rw (le-leb a b h)

pub ule_fails : (w a b : ℕ) → b < a → binary w Ule a b ≡ 0
unfolding binary
ule_fails w a b h = rw (lt-leb a b h)

pub ule_tests : (w a b : ℕ) → binary w Ule a b ≡ test (nat_le a b)
ule_tests w a b = go (nat_le a b) refl
  where
    go : (t : Bool) → nat_le a b ≡ t → binary w Ule a b ≡ test t
    go true e = ule_holds w a b (leb-true a b e)
    go false e = ule_fails w a b (leb-false a b e)

-- ---- ult: ule and not equal

pub ult_is_ule_and_not_equal : (w a b : ℕ) → binary w Ult a b ≡ binary w And (binary w Ule a b) (unary w Zero (binary w Equal a b))
unfolding binary unary
ult_is_ule_and_not_equal w a b = go (nat_lt a b) refl (a == b) refl
  where
    go : (s : Bool) → nat_lt a b ≡ s → (t : Bool) → (a == b) ≡ t → test s ≡ bit_and (test (nat_le a b)) (test (test t == 0))
    go true d true e = absurd (omega (arith, ltb-true a b d, eqb-true a b e))
    go true d false e = rw (le-leb a b (omega (arith, ltb-true a b d)))
    go false d true e = rw (le-leb a b (omega (arith, eqb-true a b e)))
    go false d false e = rw (lt-leb a b (lt_of_le-ne (ltb-false a b d) (λ q. eqb-false a b e (sym q))))

-- ---- slt: ult where both words or neither have the highest bit; else 1 if a has it

-- half the range: from here on words have the highest bit
abbrev half : (w : ℕ) → ℕ
half w = 2 ^ (w - 1)

-- a word below it or not, its highest bit, and the word raised as `slt_raised` compares it
record Low (w a : ℕ) : Type 0 where
  small : a < half w
  sign : bit (w - 1) a ≡ 0
  raised_is : raised w a ≡ a + half w

record High (w a : ℕ) : Type 0 where
  large : half w ≤ a
  sign : bit (w - 1) a ≡ 1
  raised_is : raised w a ≡ a - half w

side : (w a : ℕ) → 0 < w → a < 2 ^ w → Low w a ⊎ High w a
side w a p h = go (nat_lt a (half w)) refl
  where
    whole : half w + half w ≡ 2 ^ w
    whole = halved w p

    go : (t : Bool) → nat_lt a (half w) ≡ t → Low w a ⊎ High w a
    go true e =
        let l : a < half w = ltb-true a (half w) e in
        inl (record { small = l; sign = ap (λ n. n % 2) (div-eq_of_lt l); raised_is = mod-eq_of_lt (omega (arith, whole)) })
    go false e =
        let l : half w ≤ a = ltb-false a (half w) e in
        let one : a ≡ 1 * half w + (a - half w) = omega arith in
        let round : a + half w ≡ 1 * 2 ^ w + (a - half w) = omega (arith, whole) in
        inr (record {
          large = l;
          sign = ap (λ n. n / half w % 2) one ∙ ap (λ n. n % 2) (digits_div 1 (omega (arith, whole)));
          raised_is = ap (λ n. n % 2 ^ w) round ∙ digits_mod 1 (omega arith);
        })

module _ (w a b : ℕ) (p : 0 < w) (h : a < 2 ^ w) (k : b < 2 ^ w) where
  pub slt_same-sign : bit (w - 1) a ≡ bit (w - 1) b → binary w Slt a b ≡ binary w Ult a b
  unfolding binary
  slt_same-sign q = slt_raised w a b p h k ∙ ap test (go (side w a p h) (side w b p k))
    where
      go : Low w a ⊎ High w a → Low w b ⊎ High w b → nat_lt (raised w a) (raised w b) ≡ nat_lt a b
      go (inl x) (inl y) = same_ltb (raised w a) (raised w b) a b (λ l. omega arith) (λ l. omega arith)
      go (inl x) (inr y) = absurd (omega arith)
      go (inr x) (inl y) = absurd (omega arith)
      go (inr x) (inr y) = same_ltb (raised w a) (raised w b) a b (λ l. omega arith) (λ l. omega arith)

  pub slt_other-sign : bit (w - 1) a ≢ bit (w - 1) b → binary w Slt a b ≡ bit (w - 1) a
  slt_other-sign q = slt_raised w a b p h k ∙ go (side w a p h) (side w b p k)
    where
      go : Low w a ⊎ High w a → Low w b ⊎ High w b → test (nat_lt (raised w a) (raised w b)) ≡ bit (w - 1) a
      go (inl x) (inl y) = absurd (omega arith)
      go (inl x) (inr y) = ap test (le-ltb (raised w a) (raised w b) (omega (arith, halved w p))) ∙ sym x.sign
      go (inr x) (inl y) = ap test (lt-ltb (raised w a) (raised w b) (omega (arith, halved w p))) ∙ sym x.sign
      go (inr x) (inr y) = absurd (omega arith)

-- ---- ite: b if c is 0, else a

pub ite_of_zero : (a b : ℕ) → choice 0 a b ≡ b
ite_of_zero a b = refl

pub ite_of_another : (c a b : ℕ) → c ≢ 0 → choice c a b ≡ a
ite_of_another c a b h = rw (ne_eqb c 0 h)
