-- The laws of words, over the width: every operator of words gives a word; what and, or, xor and not do to each bit; signed order
-- as the unsigned order of raised words. Callers cite these and never an operator's text.
use Rattle.std.specs.Prelude.{◌≡◌, ℕ, zero, suc, ◌+◌, ◌-◌, ◌*◌, ◌/◌, ◌%◌, ◌^◌, ◌<◌, ◌≤◌, min, max, Bool, true, false, cond, ltb, pos}
use Rattle.std.specs.Prelude.{negsuc, ◌==◌, bit_or, int_lt, nat_le, nat_lt}
use Rattle.std.proofs.Common.{arith, add-mul, mod-eq_of_lt, pow-suc, le_of_lt, lt_of_le_of_lt, mul-le-mul_left, mul-lt-mul_of_pos_right}
use Rattle.std.proofs.Common.{sub-one, sym, ap₂, ◌∙◌, subst, pow-add, shr_lt, ltb-true, ltb-false, lt-ltb, le-ltb, ne_eqb}
use Rattle.std.proofs.Math.Nat.{mod-lt, div-le_self}
use Rattle.std.proofs.Math.Path.{refl, ap, subst⁻¹}
use Rattle.std.proofs.Math.Arith.{digits_div, digits_mod}
use Rattle.std.proofs.Math.Pow.{pow_pos, split}
use Rattle.std.specs.Int.Bits.{differ, and_lt, or_lt, xor_lt, and_step, or_step, xor_step}
use Rattle.std.proofs.lemmas.Nat.{and_shr, or_shr, xor_shr}
use Rattle.std.proofs.Math.IntN.{sub_ℕ}
use Rattle.expr.specs.declared.word.Unary.{Unary}
use Rattle.expr.specs.declared.word.Unary.TheVariants.{Not, Neg, Zero}
use Rattle.expr.specs.declared.word.Binary.{Binary}
use Rattle.expr.specs.declared.word.Binary.TheVariants.{Add, Sub, Mul, Udiv, Urem, And, Or, Xor, Shl, Lshr, Equal, Ult, Ule, Slt}
use Rattle.expr.specs.Word.{truthy, test, signed, unary, binary, choice, bit}

-- ---- words in, words out

module _ (w : ℕ) (p : 0 < w) where
  one_lt : 1 < 2 ^ w
  one_lt = go w p
    where
      go : (k : ℕ) → 0 < k → 1 < 2 ^ k
      go zero h = absurd (omega arith)
      go (suc k) h = omega (arith, pow_pos k, pow-suc 2 k)

  test_lt : (t : Bool) → test t < 2 ^ w
  test_lt true = one_lt
  test_lt false = omega (arith, one_lt)

  cond_lt : (t : Bool) {x y : ℕ} → x < 2 ^ w → y < 2 ^ w → cond t x y < 2 ^ w
  cond_lt true h k = h
  cond_lt false h k = k

  pub unary_lt : (o : Unary) (a : ℕ) → unary w o a < 2 ^ w
  unfolding unary
  unary_lt Not a = omega (arith, pow_pos w)
  unary_lt Neg a = mod-lt _ (pow_pos w)
  unary_lt Zero a = test_lt (a == 0)

  rem_lt : (a b : ℕ) → a < 2 ^ w → b < 2 ^ w → cond (b == 0) a (a % b) < 2 ^ w
  rem_lt a zero h k = h
  rem_lt a (suc b) h k = rw (ne_eqb (suc b) 0 (λ e. omega arith)) (omega (arith, mod-lt a {m = suc b} (omega arith)))

  pub binary_lt : (o : Binary) (a b : ℕ) → a < 2 ^ w → b < 2 ^ w → binary w o a b < 2 ^ w
  unfolding binary
  binary_lt Add a b h k = mod-lt _ (pow_pos w)
  binary_lt Sub a b h k = mod-lt _ (pow_pos w)
  binary_lt Mul a b h k = mod-lt _ (pow_pos w)
  binary_lt Udiv a b h k = cond_lt (b == 0) (omega (arith, pow_pos w)) (omega (arith, div-le_self a b))
  binary_lt Urem a b h k = rem_lt a b h k
  binary_lt And a b h k = and_lt w a b h k
  binary_lt Or a b h k = or_lt w a b h k
  binary_lt Xor a b h k = xor_lt w a b h k
  binary_lt Shl a b h k = cond_lt (nat_lt b w) (mod-lt _ (pow_pos w)) (pow_pos w)
  binary_lt Lshr a b h k = cond_lt (nat_lt b w) (omega (arith, div-le_self a (2 ^ b))) (pow_pos w)
  binary_lt Equal a b h k = test_lt (a == b)
  binary_lt Ult a b h k = test_lt (nat_lt a b)
  binary_lt Ule a b h k = test_lt (nat_le a b)
  binary_lt Slt a b h k = test_lt (int_lt (signed w a) (signed w b))

  pub choice_lt : (c a b : ℕ) → a < 2 ^ w → b < 2 ^ w → choice c a b < 2 ^ w
  choice_lt c a b h k = cond_lt (truthy c) h k

-- the whole product of two words has at most twice the bits
pub product_lt : (k : ℕ) {a b : ℕ} → a < 2 ^ k → b < 2 ^ k → a * b < 2 ^ (k + k)
product_lt k {a} {b} h g =
    subst⁻¹ (λ n. a * b < n) (pow-add 2 k k) (lt_of_le_of_lt (mul-le-mul_left a (le_of_lt g)) (mul-lt-mul_of_pos_right h (pow_pos k)))

-- ---- bit by bit

-- what holds of 0 and of 1 holds of every bit
each-bit : (P : ℕ → Type 0) → P 0 → P 1 → (x : ℕ) → x < 2 → P x
each-bit P h k zero l = h
each-bit P h k (suc zero) l = k
each-bit P h k (suc (suc x)) l = absurd (omega arith)

-- the lowest digit of a number, where an operation f on two bits gives it
lowest : (f g : ℕ → ℕ → ℕ) → f 0 0 % 2 ≡ g 0 0 → f 0 1 % 2 ≡ g 0 1 → f 1 0 % 2 ≡ g 1 0 → f 1 1 % 2 ≡ g 1 1
    → (rest a b : ℕ) → (rest * 2 + f (a % 2) (b % 2)) % 2 ≡ g (a % 2) (b % 2)
lowest f g p q r s rest a b =
    (let e : (rest * 2 + f (a % 2) (b % 2)) % 2 ≡ f (a % 2) (b % 2) % 2 = omega arith in e)
    ∙ each-bit (λ x. f x (b % 2) % 2 ≡ g x (b % 2)) (each-bit (λ y. f 0 y % 2 ≡ g 0 y) p q (b % 2) (omega arith))
    (each-bit (λ y. f 1 y % 2 ≡ g 1 y) r s (b % 2) (omega arith)) (a % 2) (omega arith)

pub or_number-bit : (i a b : ℕ) → bit i (bit_or a b) ≡ max (bit i a) (bit i b)
or_number-bit i a b =
    ap (λ n. n % 2) (or_shr a b i ∙ or_step (a / 2 ^ i) (b / 2 ^ i))
    ∙ lowest max max refl refl refl refl _ (a / 2 ^ i) (b / 2 ^ i)

module _ (w i a b : ℕ) where
  pub and_bit : bit i (binary w And a b) ≡ min (bit i a) (bit i b)
  unfolding binary
  and_bit =
      ap (λ n. n % 2) (and_shr a b i ∙ and_step (a / 2 ^ i) (b / 2 ^ i))
      ∙ lowest min min refl refl refl refl _ (a / 2 ^ i) (b / 2 ^ i)

  pub or_bit : bit i (binary w Or a b) ≡ max (bit i a) (bit i b)
  unfolding binary
  or_bit = or_number-bit i a b

  pub xor_bit : bit i (binary w Xor a b) ≡ (bit i a + bit i b) % 2
  unfolding binary
  xor_bit =
      ap (λ n. n % 2) (xor_shr a b i ∙ xor_step (a / 2 ^ i) (b / 2 ^ i))
      ∙ lowest differ (λ m n. (m + n) % 2) refl refl refl refl _ (a / 2 ^ i) (b / 2 ^ i)

-- every digit of q * n + r turned, where q + 1 + s is as many as q can be
turned_digits : (n q r s : ℕ) → r < n → (q + 1 + s) * n - 1 - (q * n + r) ≡ s * n + (n - 1 - r)
turned_digits n q r s h =
    let e : (q + 1 + s) * n ≡ q * n + 1 * n + s * n = add-mul (q + 1) s n ∙ ap (λ x. x + s * n) (add-mul q 1 n) in
    omega arith

pub not_bit : (w i a : ℕ) → i < w → a < 2 ^ w → bit i (unary w Not a) ≡ 1 - bit i a
unfolding unary
not_bit w i a h l =
    let j = w - i - 1 in
    let n = 2 ^ i in
    let q = a / n in
    let s = 2 ^ suc j - 1 - q in
    let e : w ≡ suc j + i = omega arith in
    let p : 2 ^ w ≡ 2 ^ suc j * n = ap (λ x. 2 ^ x) e ∙ pow-add 2 (suc j) i in
    let k : q < 2 ^ suc j = shr_lt (suc j) i (subst (λ x. a < 2 ^ x) e l) in
    let r : a % n < n = mod-lt a (pow_pos i) in
    let f : 2 ^ suc j ≡ q + 1 + s = omega arith in
    let g : a ≡ q * n + a % n = sym (split a i) in
    let t : 2 ^ w - 1 - a ≡ s * n + (n - 1 - a % n) = ap₂ (λ x y. x - 1 - y) (p ∙ ap (λ x. x * n) f) g ∙ turned_digits n q (a % n) s r in
    ap (λ x. x / n % 2) t ∙ ap (λ x. x % 2) (digits_div s (omega arith)) ∙ (let z : s % 2 ≡ 1 - q % 2 = omega (arith, pow-suc 2 j) in z)

-- ---- the signed order

-- a word raised by half the range
abbrev pub raised : (w a : ℕ) → ℕ
raised w a = (a + 2 ^ (w - 1)) % 2 ^ w

pub same_ltb : (x y u v : ℕ) → (x < y → u < v) → (y ≤ x → v ≤ u) → nat_lt x y ≡ nat_lt u v
same_ltb x y u v f g = go (nat_lt x y) refl
  where
    go : (t : Bool) → nat_lt x y ≡ t → t ≡ nat_lt u v
    go true e = sym (lt-ltb u v (f (ltb-true x y e)))
    go false e = sym (le-ltb u v (g (ltb-false x y e)))

-- with half the range h, and the whole h + h
module _ (h a b : ℕ) (p : a < h + h) (q : b < h + h) where
  low : (x : ℕ) → x < h → (x + h) % (h + h) ≡ x + h
  low x l = mod-eq_of_lt (omega arith)

  high : (x : ℕ) → h ≤ x → x < h + h → (x + h) % (h + h) ≡ x - h
  high x l m = ap (λ n. n % (h + h)) (let e : x + h ≡ 1 * (h + h) + (x - h) = omega arith in e) ∙ digits_mod 1 (omega arith)

  negative : (x : ℕ) → x < h + h → sub_ℕ x (h + h) ≡ negsuc (h + h - suc x)
  negative x l = ap (λ t. cond t (negsuc (h + h - suc x)) (pos (x - (h + h)))) (lt-ltb x (h + h) l)

  halves : int_lt (cond (nat_lt a h) (pos a) (sub_ℕ a (h + h))) (cond (nat_lt b h) (pos b) (sub_ℕ b (h + h))) ≡ ltb ((a + h) % (h + h))
      ((b + h) % (h + h))
  halves = go (nat_lt a h) refl (nat_lt b h) refl
    where
      go : (s : Bool) → nat_lt a h ≡ s → (t : Bool) → nat_lt b h ≡ t
          → int_lt (cond s (pos a) (sub_ℕ a (h + h))) (cond t (pos b) (sub_ℕ b (h + h))) ≡ nat_lt ((a + h) % (h + h)) ((b + h) % (h + h))
      go true d true e =
          rw (low a (ltb-true a h d), low b (ltb-true b h e)) (same_ltb a b (a + h) (b + h) (λ l. omega arith) (λ l. omega arith))
      go true d false e =
          rw (low a (ltb-true a h d), high b (ltb-false b h e) q, negative b q)
          (sym (le-ltb (a + h) (b - h) (omega (arith, ltb-false b h e))))
      go false d true e =
          rw (high a (ltb-false a h d) p, low b (ltb-true b h e), negative a p)
          (sym (lt-ltb (a - h) (b + h) (omega (arith, ltb-false a h d))))
      go false d false e =
          rw (high a (ltb-false a h d) p, high b (ltb-false b h e) q, negative a p, negative b q)
          (same_ltb (h + h - suc b) (h + h - suc a) (a - h) (b - h) (λ l. omega (arith, ltb-false a h d, ltb-false b h e))
          (λ l. omega (arith, ltb-false a h d, ltb-false b h e)))

pub halved : (w : ℕ) → 0 < w → 2 ^ (w - 1) + 2 ^ (w - 1) ≡ 2 ^ w
halved zero h = absurd (omega arith)
halved (suc k) h = ap (λ n. 2 ^ n + 2 ^ n) (sub-one (suc k)) ∙ (let e : 2 ^ k + 2 ^ k ≡ 2 ^ suc k = omega (arith, pow-suc 2 k) in e)

pub slt_raised : (w a b : ℕ) → 0 < w → a < 2 ^ w → b < 2 ^ w → binary w Slt a b ≡ test (nat_lt (raised w a) (raised w b))
unfolding binary signed
slt_raised w a b p h k =
    let e : 2 ^ (w - 1) + 2 ^ (w - 1) ≡ 2 ^ w = halved w p in
    ap test (
    subst (λ n. int_lt (cond (nat_lt a (2 ^ (w - 1))) (pos a) (sub_ℕ a n)) (cond (nat_lt b (2 ^ (w - 1))) (pos b) (sub_ℕ b n))
    ≡ nat_lt ((a + 2 ^ (w - 1)) % n) ((b + 2 ^ (w - 1)) % n)) e
    (halves (2 ^ (w - 1)) a b (omega arith) (omega arith)))
