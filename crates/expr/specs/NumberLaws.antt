-- Big-endian numbers: written and read again, read and written again; and at an offset of the bytes that the code holds.
use Rattle.std.specs.Prelude.{◌≡◌, ℕ, zero, suc, ◌+◌, ◌*◌, ◌/◌, ◌%◌, ◌^◌, ◌<◌, ◌≤◌, List, [], ◌∷◌, ◌++◌, length, take, drop, slice_index}
use Rattle.std.specs.Prelude.{slice_index_or, refl}
use Rattle.std.proofs.Common.{arith, mod-lt, mod-eq_of_lt, pow-suc, mul-le-mul_right, add-one, sym, ap, ◌∙◌, append-nil, length-drop}
use Rattle.std.proofs.Common.{take_all, drop-cons, drop-drop}
use Rattle.std.proofs.Math.Arith.{mod-mul}
use Rattle.expr.specs.Lists.{All}
use Rattle.expr.specs.Number.{Byte, number_after, number_of, bytes_of}

pow_pos : (k : ℕ) → 0 < 256 ^ k
pow_pos zero = omega arith
pow_pos (suc k) = omega (arith, pow_pos k, pow-suc 256 k)

pub bytes_of-length : (k n : ℕ) → length (bytes_of k n) ≡ k
bytes_of-length zero n = refl
bytes_of-length (suc k) n = ap suc (bytes_of-length k n)

pub bytes_of-bytes : (k n : ℕ) → All Byte (bytes_of k n)
bytes_of-bytes zero n = tt
bytes_of-bytes (suc k) n = (mod-lt _ (omega arith), bytes_of-bytes k n)

-- ---- written, then read

after-written : (a k n : ℕ) (rest : List ℕ) → number_after a k (bytes_of k n ++ rest) ≡ a * 256 ^ k + n % 256 ^ k
after-written a zero n rest = omega arith
after-written a (suc k) n rest =
    after-written (a * 256 + n / 256 ^ k % 256) k n rest
    ∙ (let p : n % (256 * 256 ^ k) ≡ (n / 256 ^ k % 256) * 256 ^ k + n % 256 ^ k = mod-mul n {m = 256} {c = 256 ^ k} (omega arith)
    (pow_pos k) in
    let q : 256 ^ suc k ≡ 256 * 256 ^ k = omega (arith, pow-suc 256 k) in rw q (omega arith))

pub number-written : (k n : ℕ) (rest : List ℕ) → n < 256 ^ k → number_of k (bytes_of k n ++ rest) ≡ n
number-written k n rest h = omega (arith, after-written 0 k n rest, mod-eq_of_lt h)

-- ---- read, then written

after_lt : (a k : ℕ) (bs : List ℕ) → All Byte bs → number_after a k bs < suc a * 256 ^ k
after_lt a zero bs o = omega arith
after_lt a (suc k) [] o = omega (arith, pow_pos (suc k), mul-le-mul_right a (pow_pos (suc k)))
after_lt a (suc k) (b ∷ bs) o =
    let x : b < 256 = o.0 in
    let y : suc (a * 256 + b) ≤ suc a * 256 = omega arith in
    omega (arith, after_lt (a * 256 + b) k bs o.1, mul-le-mul_right (256 ^ k) y, pow-suc 256 k, ap (λ x. a * x) (pow-suc 256 k))

pub number_lt : (k : ℕ) (bs : List ℕ) → All Byte bs → number_of k bs < 256 ^ k
number_lt k bs o = omega (arith, after_lt 0 k bs o)

after_same : (a c k : ℕ) (bs ds : List ℕ) → All Byte bs → All Byte ds → k ≤ length bs → k ≤ length ds
    → number_after a k bs ≡ number_after c k ds → (a ≡ c) × (take k bs ≡ take k ds)
after_same a c zero bs ds o p h l e = (e, refl)
after_same a c (suc k) [] ds o p h l e = absurd (omega arith)
after_same a c (suc k) (b ∷ bs) [] o p h l e = absurd (omega arith)
after_same a c (suc k) (b ∷ bs) (d ∷ ds) o p h l e =
    let q = after_same (a * 256 + b) (c * 256 + d) k bs ds o.1 p.1 (omega arith) (omega arith) e in
    let x : b < 256 = o.0 in
    let y : d < 256 = p.0 in
    let z : a * 256 + b ≡ c * 256 + d = q.0 in
    let w : b ≡ d = omega arith in (omega arith, (cc q.1))

pub bytes_read : (k : ℕ) (bs : List ℕ) → All Byte bs → k ≤ length bs → bytes_of k (number_of k bs) ≡ take k bs
bytes_read k bs o h =
    let n = number_of k bs in
    let l : length (bytes_of k n) ≡ k = bytes_of-length k n in
    sym (take_all k (bytes_of k n) (omega arith))
    ∙ (after_same 0 0 k (bytes_of k n) bs (bytes_of-bytes k n) o (omega arith) h
    (ap (number_of k) (sym (append-nil (bytes_of k n))) ∙ number-written k n [] (number_lt k bs o))).1

-- ---- in a part

pub number-take : (a j l : ℕ) (xs : List ℕ) → j ≤ l → number_after a j (take l xs) ≡ number_after a j xs
number-take a zero l xs h = refl
number-take a (suc j) zero xs h = absurd (omega arith)
number-take a (suc j) (suc l) [] h = refl
number-take a (suc j) (suc l) (x ∷ xs) h = number-take (a * 256 + x) j l xs (omega arith)

-- ---- at an offset

module _ (s : List ℕ) (i : ℕ) where
  pub byte_at : i + 1 ≤ length s → number_of 1 (drop i s) ≡ slice_index s i
  byte_at h = ap (number_of 1) (drop-cons s i 0 (omega arith))
      ∙ (let q : 0 * 256 + slice_index s i ≡ slice_index_or s i 0 = omega arith in q)

  pub two_at : i + 2 ≤ length s → number_of 2 (drop i s) ≡ slice_index s i * 256 + slice_index s (i + 1)
  two_at h =
      ap (number_of 2) (drop-cons s i 0 (omega arith) ∙ ap {B = List ℕ} (λ r. slice_index s i ∷ r) (drop-cons s (suc i) 0 (omega arith)))
      ∙ (let q : (0 * 256 + slice_index s i) * 256 + slice_index s (suc i) ≡ slice_index s i * 256
      + slice_index_or s (suc i) 0 = omega arith in q)
      ∙ ap (λ k. slice_index s i * 256 + slice_index s k) (sym (add-one i))

-- four bytes are two numbers of two
pub four-at : (s : List ℕ) (i : ℕ) → i + 4 ≤ length s → number_of 4 (drop i s) ≡ number_of 2 (drop i s) * 65536
    + number_of 2 (drop (i + 2) s)
four-at s i h = go (drop i s) (omega (arith, length-drop i s)) ∙ ap (λ r. number_of 2 (drop i s) * 65536 + number_of 2 r) (drop-drop 2 i s)
  where
    go : (bs : List ℕ) → 4 ≤ length bs → number_of 4 bs ≡ number_of 2 bs * 65536 + number_of 2 (drop 2 bs)
    go [] l = absurd (omega arith)
    go (a ∷ []) l = absurd (omega arith)
    go (a ∷ b ∷ []) l = absurd (omega arith)
    go (a ∷ b ∷ c ∷ []) l = absurd (omega arith)
    go (a ∷ b ∷ c ∷ d ∷ bs) l = omega arith
