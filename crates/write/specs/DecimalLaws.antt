-- How long a number is in decimal; and a single digit.
use Rattle.std.specs.Prelude.{ℕ, zero, suc, ◌+◌, ◌/◌, ◌%◌, ◌≤◌, ◌<◌, ◌≡◌, Bool, true, false, cond, [], ◌∷◌, ◌++◌, length, ltb}
use Rattle.std.proofs.Common.{arith, ap, length-append, lt-ltb}
use Rattle.write.specs.Decimal.{decimal_up_to, decimal}

decimal-up_to : (k n : ℕ) → length (decimal_up_to k n) ≤ k
decimal-up_to zero n = omega arith
decimal-up_to (suc k) n = go (ltb n 10) (decimal-up_to k (n / 10))
  where
    go : (x : Bool) → length (decimal_up_to k (n / 10)) ≤ k → length
        (cond x ((48 + n) ∷ []) (decimal_up_to k (n / 10) ++ (48 + n % 10) ∷ []))
        ≤ suc k
    go true l = omega arith
    go false l = omega (arith, length-append (decimal_up_to k (n / 10)) ((48 + n % 10) ∷ []))

pub ten_digits : (n : ℕ) → length (decimal n) ≤ 10
unfolding decimal
ten_digits n = decimal-up_to 10 n

one_digit : (k n : ℕ) → n < 10 → length (decimal_up_to (suc k) n) ≤ 1
one_digit k n h = rw (lt-ltb n 10 h) (omega arith)

pub two_digits : (n : ℕ) → n < 100 → length (decimal n) ≤ 2
unfolding decimal
two_digits n h = go (ltb n 10) (one_digit 8 (n / 10) (omega arith))
  where
    go : (x : Bool) → length (decimal_up_to 9 (n / 10)) ≤ 1 → length
        (cond x ((48 + n) ∷ []) (decimal_up_to 9 (n / 10) ++ (48 + n % 10) ∷ []))
        ≤ 2
    go true l = omega arith
    go false l = omega (arith, length-append (decimal_up_to 9 (n / 10)) ((48 + n % 10) ∷ []))

pub digit_is : (n : ℕ) → n < 10 → decimal n ≡ (48 + n) ∷ []
unfolding decimal
digit_is n h = ap (λ b. cond b ((48 + n) ∷ []) (decimal_up_to 9 (n / 10) ++ (48 + n % 10) ∷ [])) (lt-ltb n 10 h)
