-- The laws of masks: a mask of n bits is below 2 ^ n, its bit s says whether f holds of s, and it has as many ones as there are such s.
-- A mask grows by its highest bit; the lower bits of `w * 2 ^ n + m` are those of m, and its highest is w.
use Rattle.std.specs.Prelude.{ℕ, zero, suc, ◌+◌, ◌-◌, ◌*◌, ◌/◌, ◌%◌, ◌^◌, ◌≤◌, ◌<◌, ◌≡◌, refl, Bool, true, false}
use Rattle.std.proofs.Common.{arith, mul_assoc, pow-suc, sym, ap, ap₂, ◌∙◌, pow_pos, pow-add}
use Rattle.std.proofs.Math.Nat.{add-mul-div_right}
use Rattle.std.proofs.Math.Decide.{dec_lt}
use Rattle.std.proofs.Math.Pow.{high}
use Rattle.std.specs.Int.Count.{ones}
use Rattle.std.proofs.lemmas.Nat.{ones_cat}
use Rattle.std.specs.Int.Bits.{block_odd}
use Rattle.expr.specs.Word.{test, bit}
use Rattle.slice.specs.Mask.{mask_of}

-- ---- size

test_times : (b : Bool) (p : ℕ) → test b * p ≤ p
test_times true p = omega arith
test_times false p = omega arith

pub mask_lt : (n : ℕ) (f : ℕ → Bool) → mask_of n f < 2 ^ n
mask_lt zero f = omega arith
mask_lt (suc n) f = omega (arith, mask_lt n f, test_times (f n) (2 ^ n), pow-suc 2 n)

-- only what f says below n matters
pub mask-same : (n : ℕ) (f g : ℕ → Bool) → ((s : ℕ) → s < n → f s ≡ g s) → mask_of n f ≡ mask_of n g
mask-same zero f g h = refl
mask-same (suc n) f g h = ap₂ (λ b m. test b * 2 ^ n + m) (h n (omega arith)) (mask-same n f g (λ s l. h s (omega arith)))

-- ---- bits

bit_below : (w n s m : ℕ) → s < n → bit s (w * 2 ^ n + m) ≡ bit s m
bit_below w n s m h =
    let d : ℕ = n - suc s in
    let e : 2 ^ n ≡ 2 ^ suc d * 2 ^ s = ap (λ k. 2 ^ k) (let q : n ≡ suc d + s = omega arith in q) ∙ pow-add 2 (suc d) s in
    let a : w * 2 ^ n + m ≡ m + w * 2 ^ suc d * 2 ^ s = omega (arith, ap (λ x. w * x) e, mul_assoc w (2 ^ suc d) (2 ^ s)) in
    ap (λ x. x / 2 ^ s % 2) a
    ∙ ap (λ x. x % 2) (add-mul-div_right m (w * 2 ^ suc d) (pow_pos s))
    ∙ ap (λ x. x % 2) (let q : m / 2 ^ s + w * 2 ^ suc d ≡ w * 2 ^ suc d + m / 2 ^ s = omega arith in q)
    ∙ block_odd w d (m / 2 ^ s)

test_odd : (b : Bool) → test b % 2 ≡ test b
test_odd true = refl
test_odd false = refl

pub mask-bit : (n : ℕ) (f : ℕ → Bool) (s : ℕ) → s < n → bit s (mask_of n f) ≡ test (f s)
mask-bit zero f s h = absurd (omega arith)
mask-bit (suc n) f s h =
    elim (dec_lt s n) [
      | yes b ↦ bit_below (test (f n)) n s (mask_of n f) b
          ∙ mask-bit n f s b
      | no b ↦ highest (let q : s ≡ n = omega arith in q)
    ]
  where
    highest : s ≡ n → bit s (mask_of (suc n) f) ≡ test (f s)
    highest q =
        ap (λ k. bit k (mask_of (suc n) f)) q
        ∙ ap (λ x. x % 2) (high (test (f n)) n (mask_lt n f))
        ∙ test_odd (f n)
        ∙ ap (λ k. test (f k)) (sym q)

-- ---- ones

-- how many s below n there are that f holds of
abbrev pub count_of : (n : ℕ) → (f : ℕ → Bool) → ℕ
count_of zero f = 0
count_of (suc n) f = test (f n) + count_of n f

ones_test : (b : Bool) → ones (test b) ≡ test b
unfolding ones
ones_test true = refl
ones_test false = refl

pub mask-count : (n : ℕ) (f : ℕ → Bool) → ones (mask_of n f) ≡ count_of n f
mask-count zero f = ones_test false
mask-count (suc n) f = ones_cat n (test (f n)) (mask_of n f) (mask_lt n f) ∙ ap₂ (λ a b. a + b) (ones_test (f n)) (mask-count n f)
