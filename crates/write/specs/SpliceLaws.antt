-- The laws of writing, none of which asks that the bytes fit: writers one after the other, a writing loop, and what stands in the buffer
-- then.
use Rattle.std.specs.Prelude.{ℕ, suc, ◌+◌, ◌≤◌, ◌<◌, ◌≡◌, refl, List, [], ◌∷◌, ◌++◌, length, drop, set}
use Rattle.std.proofs.Common.{arith, add-zero, add-suc, suc-add, add_assoc, zero-add, sym, ap, ◌∙◌, length-append}
use Rattle.std.proofs.lemmas.List.Edits.{sets, sets-eq}
use Rattle.std.proofs.Math.Seq.{length-sets, set_out}
use Rattle.std.proofs.lemmas.List.{set_comm}
use Rattle.write.specs.Splice.{splice, Wrote, over}

-- ---- bytes stored

pub splice_nil : (at : ℕ) (xs : List ℕ) → splice at [] xs ≡ xs
unfolding splice
splice_nil at xs = refl

pub length-splice : (at : ℕ) (bs xs : List ℕ) → length (splice at bs xs) ≡ length xs
unfolding splice
length-splice at bs xs = length-sets xs at bs

-- behind the end nothing is stored
pub splice-past : (at : ℕ) (bs xs : List ℕ) → length xs ≤ at → splice at bs xs ≡ xs
unfolding splice
splice-past at [] xs h = refl
splice-past at (b ∷ bs) xs h = ap (λ ys. sets ys (suc at) bs) (set_out xs at b h) ∙ splice-past (suc at) bs xs (omega arith)

-- two that meet are one
pub splice-append : (at : ℕ) (a b xs : List ℕ) → splice (at + length a) b (splice at a xs) ≡ splice at (a ++ b) xs
unfolding splice
splice-append at [] b xs = ap (λ k. sets xs k b) (add-zero at)
splice-append at (x ∷ a) b xs =
    ap (λ k. sets (sets (set xs at x) (suc at) a) k b) (add-suc at (length a) ∙ sym (suc-add at (length a)))
    ∙ splice-append (suc at) a b (set xs at x)

set-splice : (at x k : ℕ) (bs xs : List ℕ) → at < k → set (splice k bs xs) at x ≡ splice k bs (set xs at x)
unfolding splice
set-splice at x k [] xs h = refl
set-splice at x k (b ∷ bs) xs h =
    set-splice at x (suc k) bs (set xs k b) (omega arith) ∙ ap (λ ys. sets ys (suc k) bs) (set_comm xs k at b x (λ e. omega arith))

-- also where the first is stored last
pub splice-behind : (at : ℕ) (a b xs : List ℕ) → splice at a (splice (at + length a) b xs) ≡ splice at (a ++ b) xs
unfolding splice
splice-behind at [] b xs = ap (λ k. sets xs k b) (add-zero at)
splice-behind at (x ∷ a) b xs =
    ap (λ ys. sets ys (suc at) a) (set-splice at x (at + suc (length a)) b xs (omega arith))
    ∙ ap (λ k. sets (sets (set xs at x) k b) (suc at) a) (add-suc at (length a) ∙ sym (suc-add at (length a)))
    ∙ splice-behind (suc at) a b (set xs at x)

-- from the first byte on, where they fit
pub splice-over : (bs xs : List ℕ) → length bs ≤ length xs → splice 0 bs xs ≡ over bs xs
unfolding splice
splice-over bs xs h = sets-eq bs xs 0 (rw zero-add h) ∙ ap (λ k. bs ++ drop k xs) (zero-add (length bs))

-- ---- writers

module _ {o : List ℕ} {at : ℕ} {a p : List ℕ} {m : ℕ} where
  -- one after the other
  infixr 5 ◌then◌
  pub ◌then◌ : {b q : List ℕ} {n : ℕ} → Wrote o at a p m → Wrote p m b q n → Wrote o at (a ++ b) q n
  ◌then◌ {b} v w = record {
    buffer = w.buffer ∙ ap (λ k. splice k b p) v.next ∙ ap (splice (at + length a) b) v.buffer ∙ splice-append at a b o;
    next = w.next ∙ ap (λ k. k + length b) v.next ∙ add_assoc at (length a) (length b) ∙ ap (λ k. at + k) (sym (length-append a b));
  }

  pub wrote_as : {b : List ℕ} → a ≡ b → Wrote o at a p m → Wrote o at b p m
  wrote_as e w = rw e at w

  pub wrote-length : Wrote o at a p m → length p ≡ length o
  wrote-length w = ap length w.buffer ∙ length-splice at a o

-- a part that is written before the one in front of it
pub behind : (at : ℕ) (a : List ℕ) {o b p q : List ℕ} {m n r : ℕ} → m ≡ at + length a → Wrote o m b p n → q ≡ splice at a p → r ≡ n
    → Wrote o at (a ++ b) q r
behind at a {o} {b} e w h k = record {
  buffer = h ∙ ap (splice at a) (w.buffer ∙ ap (λ k. splice k b o) e) ∙ splice-behind at a b o;
  next = omega (arith, w.next, length-append a b);
}

-- ---- a loop that writes

-- `rest` is still to be written at `to` of o, and that leaves what writing `all` at `at` of o₀ leaves
pub record Ahead (o : List ℕ) (to : ℕ) (rest o₀ : List ℕ) (at : ℕ) (all : List ℕ) : Type 0 where
  pub buffer : splice to rest o ≡ splice at all o₀
  pub next : to + length rest ≡ at + length all

pub ahead_start : (o : List ℕ) (at : ℕ) (all : List ℕ) → Ahead o at all o at all
ahead_start o at all = record { buffer = refl; next = refl }

module _ {o : List ℕ} {to : ℕ} {rest o₀ : List ℕ} {at : ℕ} {all : List ℕ} (h : Ahead o to rest o₀ at all) where
  pub ahead_step : {a b o' : List ℕ} {to' : ℕ} → rest ≡ a ++ b → Wrote o to a o' to' → Ahead o' to' b o₀ at all
  ahead_step {a} {b} {o'} e w = record {
    buffer =
        ap (λ k. splice k b o') w.next ∙ ap (splice (to + length a) b) w.buffer ∙ splice-append to a b o
        ∙ ap (λ r. splice to r o) (sym e) ∙ h.buffer;
    next = (let l : length rest ≡ length a + length b = ap length e ∙ length-append a b in omega (arith, w.next, h.next));
  }

  pub ahead_end : rest ≡ [] → Wrote o₀ at all o to
  ahead_end e = record {
    buffer = sym (splice_nil to o) ∙ ap (λ r. splice to r o) (sym e) ∙ h.buffer;
    next = (let l : length rest ≡ 0 = ap length e in omega (arith, h.next));
  }

  pub ahead_length : length o ≡ length o₀
  ahead_length = sym (length-splice to rest o) ∙ ap length h.buffer ∙ length-splice at all o₀

  -- there is room for the rest
  pub ahead_room : at + length all ≤ length o₀ → to + length rest ≤ length o
  ahead_room k = omega (arith, ahead_length, h.next)
