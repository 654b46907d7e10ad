-- Hexadecimal digits, and closing parentheses.
use Rattle.std.proofs.Common.{ℕ, zero, suc, ◌+◌, ◌/◌, ◌%◌, ◌≤◌, ◌<◌, arith, ◌≡◌, refl, sym, ap, List, [], ◌∷◌, ◌++◌, replicate}
use native.Mathlib.Nat.{add-zero}
use Rattle.std.specs.Int.{w32, to_be_bytes}
use Rattle.write.specs.Splice.{Wrote}
use Rattle.write.specs.SpliceLaws.{splice_nil, Ahead, ahead_start, ahead_step, ahead_end}
use Rattle.write.specs.Ascii.{ascii}
use Rattle.script.specs.ScriptText.{hex_digit, constant}

-- nothing is written
pub wrote_none : (o : List ℕ) (at : ℕ) → Wrote o at [] o at
wrote_none o at = record { buffer = sym (splice_nil at o); next = sym (add-zero at) }

-- ---- hexadecimal digits

abbrev pair : ℕ → List ℕ
pair b = hex_digit (b / 16) ∷ hex_digit (b % 16) ∷ []

abbrev pub pairs : List ℕ → List ℕ
pairs [] = []
pairs (b ∷ bs) = pair b ++ pairs bs

-- two digits for each of four bytes
pub constant_pairs : (v : ℕ) → ascii "#x" ++ pairs (to_be_bytes w32 v) ≡ constant v
unfolding constant
constant_pairs v =
    let a : v / 16777216 % 256 / 16 ≡ v / 268435456 % 16 = omega arith in
    let z : v / 16777216 % 256 % 16 ≡ v / 16777216 % 16 = omega arith in
    let b : v / 65536 % 256 / 16 ≡ v / 1048576 % 16 = omega arith in
    let c : v / 65536 % 256 % 16 ≡ v / 65536 % 16 = omega arith in
    let d : v / 256 % 256 / 16 ≡ v / 4096 % 16 = omega arith in
    let e : v / 256 % 256 % 16 ≡ v / 256 % 16 = omega arith in
    let f : v % 256 / 16 ≡ v / 16 % 16 = omega arith in
    let g : v % 256 % 16 ≡ v / 1 % 16 = omega arith in
    rw (a, z, b, c, d, e, f, g)

-- ---- closing parentheses

pub replicate-end : (n a : ℕ) → replicate n a ++ a ∷ [] ≡ replicate (suc n) a
replicate-end zero a = refl
replicate-end (suc n) a = ap {B = List ℕ} (λ r. a ∷ r) (replicate-end n a)

pub record Closing (n : ℕ) (out₀ : List ℕ) (at : ℕ) (out : List ℕ) (i to : ℕ) : Type 0 where
  pub left : ℕ
  pub sum : i + left ≡ n
  pub here : to ≡ at + i
  pub wrote : Ahead out to (replicate left 41) out₀ at (replicate n 41)

pub closing_start : (n : ℕ) (out : List ℕ) (at : ℕ) → Closing n out at out 0 at
closing_start n out at = record {
  left = n;
  sum = omega arith;
  here = sym (add-zero at);
  wrote = ahead_start out at (replicate n 41);
}

module _ {n : ℕ} {out₀ : List ℕ} {at : ℕ} {out : List ℕ} {i to : ℕ} (v : Closing n out₀ at out i to) where
  pub closing_on : i < n → {out' : List ℕ} {to' : ℕ} → Wrote out to (41 ∷ []) out' to' → Closing n out₀ at out' (i + 1) to'
  closing_on h {out'} {to'} w = go v.left v.sum v.wrote
    where
      go : (l : ℕ) → i + l ≡ n → Ahead out to (replicate l 41) out₀ at (replicate n 41) → Closing n out₀ at out' (i + 1) to'
      go zero q a = absurd (omega arith)
      go (suc l) q a = record { left = l; sum = omega arith; here = omega (arith, v.here, w.next); wrote = ahead_step a refl w }

  pub closing_end : n ≤ i → Wrote out₀ at (replicate n 41) out to × (to ≡ at + n)
  closing_end h =
      let q : v.left ≡ 0 = omega (arith, v.sum) in
      (ahead_end v.wrote (ap (λ l. replicate l 41) q), omega (arith, v.here, v.sum))
