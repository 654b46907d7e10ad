-- A set as bits: marking a symbol sets its bit, and leaves the others of its word and all other words.
use Prim.Native.Nat.{ℕ, zero, suc, ◌-◌, ◌*◌, ◌/◌, ◌%◌, ◌^◌, ◌<◌, max}
use native.Mathlib.Omega.{arith}
use native.Mathlib.Decide.{dec_lt}
use native.Mathlib.Nat.{zero-div, div-eq_of_lt, pow-suc}
use mathlib.Core.Path.{◌≡◌, refl, sym, ap, ap₂, ◌∙◌}
use mathlib.Core.Bool.{Bool, true, false, ◌||◌}
use mathlib.Core.List.{List}
use lib.ListN.{length, get_or, set, replicate}
use lib.Seq.{get_or-set_same, get_or-set_other}
use lib.Dec.{eqb, lit<}
use lib.Bits.{bit_or}
use lib.Pow.{shl_exact, pow_pos}
use borrow.Author.Tests.{eqb-true, eqb-false, eq-eqb, ne_eqb}
use Rattle.expr.specs.Word.{test, bit}
use Rattle.expr.specs.WordLaws.{or_number-bit}
use Rattle.expr.specs.OperatorLaws.{moved_bit, bit_moved_in}
use Rattle.file.proofs.FileLaws.{same_everywhere}
use Rattle.trace.specs.Shown.{symbol_room}
use Rattle.slice.specs.declared.sets.Symbols.{Symbols}
use Rattle.slice.specs.Shown.{in_set}

-- the set that the words are
abbrev pub of_words : List ℕ → Symbols
of_words ws = record { words = ws }

pub in_clear : (n x : ℕ) → in_set (of_words (replicate n 0)) x ≡ false
unfolding in_set
in_clear n x =
    ap (λ w. eqb (bit (x % 64) w) 1) (same_everywhere n 0 (x / 64)) ∙ ap (λ q. eqb (q % 2) 1) (zero-div (2 ^ (x % 64)))

-- ---- a word

-- of a word with one bit set
one_bit : (i k : ℕ) → k < 64 → bit i (1 * 2 ^ k % 2 ^ 64) ≡ test (eqb i k)
one_bit i k l =
    ap (bit i) (shl_exact 1 k 64 (lit< tt) (omega arith))
    ∙ elim (dec_lt i k) [
      | yes m ↦ bit_moved_in i 1 k m ∙ sym (ap test (ne_eqb i k (λ e. omega arith)))
      | no m ↦ moved_bit i 1 k (omega arith) ∙ above (i - k) refl (omega arith)
    ]
  where
    above : (d : ℕ) → i - k ≡ d → k < suc i → bit d 1 ≡ test (eqb i k)
    above zero e m = sym (ap test (eq-eqb i k (omega arith)))
    above (suc d) e m =
        ap (λ q. q % 2) (div-eq_of_lt (omega (arith, pow-suc 2 d, pow_pos d))) ∙ sym (ap test (ne_eqb i k (λ q. omega arith)))

either-bit : (b : Bool) (n : ℕ) → n < 2 → eqb (max n (test b)) 1 ≡ (b || eqb n 1)
either-bit true zero l = refl
either-bit true (suc zero) l = refl
either-bit true (suc (suc n)) l = absurd (omega arith)
either-bit false zero l = refl
either-bit false (suc zero) l = refl
either-bit false (suc (suc n)) l = absurd (omega arith)

-- ---- the set

-- a symbol's word is there
pub inside : (k : ℕ) → k < symbol_room → k / 64 < 65
unfolding symbol_room
inside k h = omega arith

module _ (s : List ℕ) (k : ℕ) (l : length s ≡ 65) (h : k < symbol_room) (x : ℕ) where
  abbrev marked : List ℕ
  marked = set s (k / 64) (bit_or (get_or s (k / 64) 0) (1 * 2 ^ (k % 64) % 2 ^ 64))

  -- in the symbol's word
  same_word : x / 64 ≡ k / 64 → in_set (of_words marked) x ≡ (eqb x k || in_set (of_words s) x)
  unfolding in_set
  same_word e =
      let w = get_or s (k / 64) 0 in
      let i = x % 64 in
      ap (λ q. eqb (bit (x % 64) (get_or marked q 0)) 1) e
      ∙ ap (λ n. eqb (bit (x % 64) n) 1) (get_or-set_same s (k / 64) _ 0 (omega (arith, inside k h)))
      ∙ ap (λ n. eqb n 1) (or_number-bit i w (1 * 2 ^ (k % 64) % 2 ^ 64) ∙ ap (max (bit i w)) (one_bit i (k % 64) (omega arith)))
      ∙ either-bit (eqb (x % 64) (k % 64)) (bit i w) (omega arith)
      ∙ ap₂ (λ b q. b || eqb (bit (x % 64) (get_or s q 0)) 1) same_rest (sym e)
    where
      same_rest : eqb (x % 64) (k % 64) ≡ eqb x k
      same_rest = go (eqb x k) refl
        where
          go : (b : Bool) → eqb x k ≡ b → eqb (x % 64) (k % 64) ≡ b
          go true q = eq-eqb (x % 64) (k % 64) (ap (λ n. n % 64) (eqb-true x k q))
          go false q = let n : x ≡ k → ⊥ = eqb-false x k q in ne_eqb (x % 64) (k % 64) (λ m. n (omega arith))

  other_word : (x / 64 ≡ k / 64 → ⊥) → in_set (of_words marked) x ≡ (eqb x k || in_set (of_words s) x)
  unfolding in_set
  other_word n =
      ap (λ w. eqb (bit (x % 64) w) 1) (get_or-set_other s (k / 64) (x / 64) _ 0 n)
      ∙ sym (ap (λ b. b || eqb (bit (x % 64) (get_or s (x / 64) 0)) 1) (ne_eqb x k (λ e. n (ap (λ n. n / 64) e))))

  pub in_marked : in_set (of_words (set s (k / 64) (bit_or (get_or s (k / 64) 0) (1 * 2 ^ (k % 64) % 2 ^ 64)))) x
      ≡ (eqb x k || in_set (of_words s) x)
  in_marked = go (eqb (x / 64) (k / 64)) refl
    where
      go : (b : Bool) → eqb (x / 64) (k / 64) ≡ b → in_set (of_words marked) x ≡ (eqb x k || in_set (of_words s) x)
      go true e = same_word (eqb-true (x / 64) (k / 64) e)
      go false e = other_word (eqb-false (x / 64) (k / 64) e)
