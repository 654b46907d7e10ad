-- A number's digits are counted from the last to the first, and written so: what is counted and what is left make the count, and the
-- digits still to be stored in front of the present buffer make the number's digits on the first.
use Rattle.std.proofs.Common.{ℕ, zero, suc, ◌+◌, ◌/◌, ◌%◌, ◌^◌, ◌≤◌, ◌<◌, arith, ◌≡◌, refl, sym, ap, ◌∙◌, subst, Bool, true, false, cond}
use Rattle.std.proofs.Common.{List, [], ◌∷◌, ◌++◌, length, set, length-append, ltb-true, ltb-false, eq-eqb, ne_eqb}
use native.Mathlib.Nat.{div-lt_iff_lt-mul, zero-lt-suc, pow-suc}
use lib.Dec.{eqb, ltb}
use Rattle.write.specs.Splice.{splice, Wrote}
use Rattle.write.specs.SpliceLaws.{splice_nil, splice-behind}
use Rattle.write.specs.Decimal.{decimal_up_to, decimal}
use Rattle.write.specs.Shown.{digit_count_up_to, digit_count}

-- ---- counting

-- the digits of a number, at most j, and none where it is zero
abbrev left : (j n : ℕ) → ℕ
left zero n = 0
left (suc j) n = cond (eqb n 0) 0 (suc (left j (n / 10)))

left_none : (j n : ℕ) → n ≡ 0 → left j n ≡ 0
left_none zero n h = refl
left_none (suc j) n h = rw (eq-eqb n 0 h)

left_some : (j n : ℕ) → 0 < n → left (suc j) n ≡ suc (left j (n / 10))
left_some j n h = rw (ne_eqb n 0 (λ e. omega arith))

-- the last digit, and those in front of it
count_left : (j n : ℕ) → digit_count_up_to (suc j) n ≡ suc (left j (n / 10))
count_left zero n = go (ltb n 10)
  where
    go : (x : Bool) → ◌≡◌ {A = ℕ} (cond x 1 1) 1
    go true = refl
    go false = refl
count_left (suc j) n = go (ltb n 10) refl (count_left j (n / 10))
  where
    go : (x : Bool) → ltb n 10 ≡ x → digit_count_up_to (suc j) (n / 10) ≡ suc (left j (n / 10 / 10))
        → cond x 1 (suc (digit_count_up_to (suc j) (n / 10))) ≡ suc (left (suc j) (n / 10))
    go true e q = let h = ltb-true n 10 e in ap suc (sym (left_none (suc j) (n / 10) (omega arith)))
    go false e q = let h = ltb-false n 10 e in ap suc (q ∙ sym (left_some j (n / 10) (omega arith)))

-- k digits are counted, and the number in front of them is `rest`
pub record Counting (v k rest : ℕ) : Type 0 where
  pub more : ℕ
  pub ten : k + more ≡ 10
  pub some_digit : 1 ≤ k
  pub little : rest < 10 ^ more
  pub count : k + left more rest ≡ digit_count v

pub counting_start : (v : ℕ) → v < 4294967296 → Counting v 1 (v / 10)
counting_start v h = record { more = 9; ten = refl; some_digit = omega arith; little = omega arith; count = omega (arith, count_left 9 v) }

module _ {v k rest : ℕ} (c : Counting v k rest) where
  pub count-on : 0 < rest → Counting v (k + 1) (rest / 10)
  count-on h = go c.more c.ten c.little c.count
    where
      go : (m : ℕ) → k + m ≡ 10 → rest < 10 ^ m → k + left m rest ≡ digit_count v → Counting v (k + 1) (rest / 10)
      go zero t l q = absurd (omega arith)
      go (suc j) t l q = record {
        more = j;
        ten = omega arith;
        some_digit = omega arith;
        little = (div-lt_iff_lt-mul (zero-lt-suc 9)).1 (subst (λ (x : ℕ). rest < x) (pow-suc 10 j) l);
        count = omega (arith, q, left_some j rest h);
      }

  pub counted : rest ≤ 0 → (k ≡ digit_count v) × (1 ≤ k) × (k ≤ 10)
  counted h = (omega (arith, c.count, left_none c.more rest (omega arith)), c.some_digit, omega (arith, c.ten))

-- ---- writing

-- the last i digits of a number
abbrev last_digits : (i n : ℕ) → List ℕ
last_digits zero n = []
last_digits (suc i) n = last_digits i (n / 10) ++ (48 + n % 10) ∷ []

length_digits : (i n : ℕ) → length (last_digits i n) ≡ i
length_digits zero n = refl
length_digits (suc i) n = length-append (last_digits i (n / 10)) ((48 + n % 10) ∷ []) ∙ omega (arith, length_digits i (n / 10))

all_digits : (k n : ℕ) → decimal_up_to k n ≡ last_digits (digit_count_up_to k n) n
all_digits zero n = refl
all_digits (suc k) n = go (ltb n 10) refl (all_digits k (n / 10))
  where
    go : (x : Bool) → ltb n 10 ≡ x → decimal_up_to k (n / 10) ≡ last_digits (digit_count_up_to k (n / 10)) (n / 10)
        → cond x ((48 + n) ∷ []) (decimal_up_to k (n / 10) ++ (48 + n % 10) ∷ [])
        ≡ last_digits (cond x 1 (suc (digit_count_up_to k (n / 10)))) n
    go true e q = let h = ltb-true n 10 e in ap {B = List ℕ} (λ d. (48 + d) ∷ []) (let m : n ≡ n % 10 = omega arith in m)
    go false e q = ap (λ ds. ds ++ (48 + n % 10) ∷ []) q

decimal-is : (n k : ℕ) → k ≡ digit_count n → decimal n ≡ last_digits k n
unfolding decimal
decimal-is n k e = all_digits 10 n ∙ ap (λ i. last_digits i n) (sym e)

-- i digits, which are the last ones of `rest`, are still to be stored
pub record Storing (v : ℕ) (out₀ : List ℕ) (at k : ℕ) (out : List ℕ) (i rest : ℕ) : Type 0 where
  pub inside : i ≤ k
  pub buffer : splice at (last_digits i rest) out ≡ splice at (last_digits k v) out₀

module _ {v : ℕ} {out₀ : List ℕ} {at k : ℕ} {out : List ℕ} {i rest : ℕ} (s : Storing v out₀ at k out i rest) where
  pub store_on : (j : ℕ) → i ≡ suc j → Storing v out₀ at k (set out (at + j) (48 + rest % 10)) j (rest / 10)
  unfolding splice
  store_on j e =
      let front = last_digits j (rest / 10) in
      let here : List ℕ = (48 + rest % 10) ∷ [] in
      record {
        inside = omega (arith, s.inside);
        buffer =
            ap (λ n. splice at front (splice (at + n) here out)) (sym (length_digits j (rest / 10)))
            ∙ splice-behind at front here out ∙ ap (λ n. splice at (last_digits n rest) out) (sym e) ∙ s.buffer;
      }

  pub stored : i ≡ 0 → k ≡ digit_count v → Wrote out₀ at (decimal v) out (at + k)
  stored z e = record {
    buffer =
        sym (splice_nil at out) ∙ ap (λ n. splice at (last_digits n rest) out) (sym z) ∙ s.buffer
        ∙ ap (λ ds. splice at ds out₀) (sym (decimal-is v k e));
    next = omega (arith, ap length (decimal-is v k e), length_digits k v);
  }
