-- What the laws say of lists and tests in general.
use Rattle.std.specs.Prelude.{◌≡◌, ℕ, zero, suc, ◌+◌, ◌-◌, ◌<◌, Bool, true, false, ◌&&◌, ◌||◌, List, [], ◌∷◌, ◌++◌, length, get_or, take}
use Rattle.std.specs.Prelude.{drop, ◌==◌, refl}
use Rattle.std.proofs.Common.{arith, sym, ap, ◌∙◌, drop-drop, eqb-true}
use Rattle.std.proofs.Math.Seq.{take-nil}
use Rattle.std.proofs.lemmas.Bool.{eqb-false}

-- ---- every element

abbrev pub All {ℓ} : {A : Type ℓ} → (A → Type 0) → List A → Type 0
All P [] = Unit {0}
All P (x ∷ xs) = P x × All P xs

pub all_drop {ℓ} : {A : Type ℓ} (P : A → Type 0) (k : ℕ) (xs : List A) → All P xs → All P (drop k xs)
all_drop P zero xs h = h
all_drop P (suc k) [] h = h
all_drop P (suc k) (x ∷ xs) h = all_drop P k xs h.1

pub all_take {ℓ} : {A : Type ℓ} (P : A → Type 0) (k : ℕ) (xs : List A) → All P xs → All P (take k xs)
all_take P zero xs h = tt
all_take P (suc k) [] h = tt
all_take P (suc k) (x ∷ xs) h = (h.0, all_take P k xs h.1)

pub all_append {ℓ} : {A : Type ℓ} (P : A → Type 0) (xs ys : List A) → All P xs → All P ys → All P (xs ++ ys)
all_append P [] ys h k = k
all_append P (x ∷ xs) ys h k = (h.0, all_append P xs ys h.1 k)

-- what holds at every index holds of every element
pub all-at : (P : ℕ → Type 0) (xs : List ℕ) → ((i : ℕ) → i < length xs → P (get_or xs i 0)) → All P xs
all-at P [] h = tt
all-at P (x ∷ xs) h = (h 0 (omega arith), all-at P xs (λ i k. h (suc i) (omega arith)))

-- ---- parts of parts

pub drop-take : (k l : ℕ) (xs : List ℕ) → drop k (take l xs) ≡ take (l - k) (drop k xs)
drop-take zero l xs = ap (λ n. take n xs) (let e : l ≡ l - 0 = omega arith in e)
drop-take (suc k) zero xs = sym (ap (λ n. take n (drop (suc k) xs)) (let e : 0 - suc k ≡ 0 = omega arith in e))
drop-take (suc k) (suc l) [] = sym (take-nil (suc l - suc k))
drop-take (suc k) (suc l) (x ∷ xs) = drop-take k l xs ∙ ap (λ n. take n (drop k xs)) (let e : l - k ≡ suc l - suc k = omega arith in e)

-- behind the element at i
pub drop-next {ℓ} : {A : Type ℓ} (xs : List A) (i : ℕ) {y : A} {ys : List A} → drop i xs ≡ y ∷ ys → drop (i + 1) xs ≡ ys
drop-next xs i q = sym (drop-drop 1 i xs) ∙ ap (drop 1) q

-- ---- tests

pub and_both : (a b : Bool) → (a && b) ≡ true → (a ≡ true) × (b ≡ true)
and_both true b h = (refl, h)
and_both false b h = (h, cc)

pub both_and : (a b : Bool) → a ≡ true → b ≡ true → (a && b) ≡ true
both_and true b h k = k
both_and false b h k = h

pub or_left : (a b : Bool) → a ≡ true → (a || b) ≡ true
or_left true b h = refl
or_left false b h = cc

pub or_right : (a b : Bool) → b ≡ true → (a || b) ≡ true
or_right true b h = refl
or_right false b h = h

pub or_cases {ℓ} : {C : Type ℓ} (a b : Bool) → (a ≡ true → C) → (b ≡ true → C) → (a || b) ≡ true → C
or_cases true b f g h = f refl
or_cases false b f g h = g h

pub or_false : (a : Bool) → (a || false) ≡ a
or_false true = refl
or_false false = refl

-- ---- a test of every number below n, that is computed

abbrev pub every : (n : ℕ) → (ℕ → Bool) → Bool
every zero f = true
every (suc n) f = f n && every n f

pub every-below : (n : ℕ) (f : ℕ → Bool) → every n f ≡ true → (b : ℕ) → b < n → f b ≡ true
every-below zero f h b l = absurd (omega arith)
every-below (suc n) f h b l = go (b == n) refl (every-below n f (and_both (f n) (every n f) h).1 b)
  where
    go : (x : Bool) → (b == n) ≡ x → (b < n → f b ≡ true) → f b ≡ true
    go true e rest = ap f (eqb-true b n e) ∙ (and_both (f n) (every n f) h).0
    go false e rest = let d : b ≡ n → ⊥ = eqb-false b n e in rest (omega (arith, d))
