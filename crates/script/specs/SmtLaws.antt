-- SMT-LIB's operators on words are ours.
use Rattle.std.specs.Prelude.{ℕ, ◌+◌, ◌-◌, ◌*◌, ◌/◌, ◌%◌, ◌^◌, ◌≤◌, ◌<◌, ◌≡◌, Bool, ◌&&◌, ◌||◌}
use native.Mathlib.Omega.{arith}
use Rattle.std.proofs.Math.Nat.{add-mod-mod, mul-mod_left, mod-eq_of_lt, div-eq_of_lt, div-le_self, pow-le-pow_right}
use Rattle.std.proofs.Common.{mul_assoc, ◌∙◌, pow-add}
use Rattle.std.proofs.Math.Path.{refl, sym, ap}
use Rattle.std.proofs.Math.Bool.{true, false, cond}
use Rattle.std.proofs.Math.Dec.{eqb, ltb, leb}
use borrow.Author.Tests.{eqb-true, eqb-false, ltb-true, ltb-false, lt-ltb, le-ltb, le-leb, lt-leb}
use Rattle.expr.specs.declared.word.Binary.TheVariants.{Sub, Shl, Lshr, Slt}
use Rattle.expr.specs.Word.{Word, test, binary}
use Rattle.expr.specs.WordLaws.{raised, same_ltb, slt_raised}
use Rattle.script.specs.Smt.{bvsub, bvshl, bvlshr, bvule, bvslt, bv_binary, sign, related}

module _ (w a b : ℕ) where
  pub sub_is : bv_binary w bvsub a b ≡ binary w Sub a b
  unfolding bv_binary binary
  sub_is = add-mod-mod a (2 ^ w - b) (2 ^ w)

  -- a shift by the width or more leaves nothing
  pub shl_is : bv_binary w bvshl a b ≡ binary w Shl a b
  unfolding bv_binary binary
  shl_is = go (ltb b w) refl
    where
      go : (t : Bool) → ltb b w ≡ t → a * 2 ^ b % 2 ^ w ≡ cond t (a * 2 ^ b % 2 ^ w) 0
      go true e = refl
      go false e =
          let d = b - w in
          let l : w ≤ b = ltb-false b w e in
          let q : b ≡ d + w = omega arith in
          let p : a * 2 ^ b ≡ a * 2 ^ d * 2 ^ w = ap (λ n. a * 2 ^ n) q ∙ ap (λ n. a * n) (pow-add 2 d w)
          ∙ sym (mul_assoc a (2 ^ d) (2 ^ w)) in
          ap (λ n. n % 2 ^ w) p ∙ mul-mod_left (a * 2 ^ d) (2 ^ w)

  pub lshr_is : a < 2 ^ w → bv_binary w bvlshr a b ≡ binary w Lshr a b
  unfolding bv_binary binary
  lshr_is h = mod-eq_of_lt (let l = div-le_self a (2 ^ b) in omega arith) ∙ go (ltb b w) refl
    where
      go : (t : Bool) → ltb b w ≡ t → a / 2 ^ b ≡ cond t (a / 2 ^ b) 0
      go true e = refl
      go false e = div-eq_of_lt (let l = pow-le-pow_right {n = 2} (omega arith) (ltb-false b w e) in omega arith)

  pub ule_is : related w bvule a b ≡ leb a b
  unfolding related
  ule_is = go (ltb a b) refl (eqb a b) refl
    where
      go : (s : Bool) → ltb a b ≡ s → (t : Bool) → eqb a b ≡ t → (s || t) ≡ leb a b
      go true e t f = sym (le-leb a b (omega (arith, ltb-true a b e)))
      go false e true f = sym (le-leb a b (omega (arith, eqb-true a b f)))
      go false e false f = let n : a ≡ b → ⊥ = eqb-false a b f in sym (lt-leb a b (omega (arith, ltb-false a b e, n)))

module _ (a b : ℕ) (h : Word a) (k : Word b) where
  low : (x : ℕ) → x < 2 ^ 31 → sign 32 x ≡ 0
  low x l = omega arith

  high : (x : ℕ) → Word x → 2 ^ 31 ≤ x → sign 32 x ≡ 1
  high x m l = omega arith

  signs : related 32 bvslt a b ≡ ltb (raised 32 a) (raised 32 b)
  unfolding related
  signs = go (ltb a (2 ^ 31)) refl (ltb b (2 ^ 31)) refl
    where
      go : (s : Bool) → ltb a (2 ^ 31) ≡ s → (t : Bool) → ltb b (2 ^ 31) ≡ t
          → ((eqb (sign 32 a) 1 && eqb (sign 32 b) 0) || (eqb (sign 32 a) (sign 32 b) && ltb a b)) ≡ ltb (raised 32 a) (raised 32 b)
      go true d true e =
          let m = ltb-true a (2 ^ 31) d in let n = ltb-true b (2 ^ 31) e in
          rw (low a m, low b n) (same_ltb a b (raised 32 a) (raised 32 b) (λ l. omega arith) (λ l. omega arith))
      go true d false e =
          let m = ltb-true a (2 ^ 31) d in let n = ltb-false b (2 ^ 31) e in
          rw (low a m, high b k n) (sym (le-ltb (raised 32 a) (raised 32 b) (omega arith)))
      go false d true e =
          let m = ltb-false a (2 ^ 31) d in let n = ltb-true b (2 ^ 31) e in
          rw (high a h m, low b n) (sym (lt-ltb (raised 32 a) (raised 32 b) (omega arith)))
      go false d false e =
          let m = ltb-false a (2 ^ 31) d in let n = ltb-false b (2 ^ 31) e in
          rw (high a h m, high b k n) (same_ltb a b (raised 32 a) (raised 32 b) (λ l. omega arith) (λ l. omega arith))

  pub slt_is : test (related 32 bvslt a b) ≡ binary 32 Slt a b
  slt_is = ap test signs ∙ sym (slt_raised 32 a b (omega arith) h k)
