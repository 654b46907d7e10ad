-- The laws of words handed as bytes: how many there are, each of them, and storing one after the other at the front of an array.
use Rattle.std.specs.Prelude.{ℕ, zero, suc, ◌+◌, ◌*◌, ◌≤◌, ◌<◌, ◌≡◌, refl, List, [], ◌∷◌, ◌++◌, length, take, drop, get_or, set}
use Rattle.std.proofs.Common.{arith, add-one, sym, ap, ap₂, ◌∙◌, drop-drop, take_at}
use Rattle.std.proofs.lemmas.List.Edits.{sets, sets-eq}
use Rattle.expr.specs.Number.{number_of}
use Rattle.file.proofs.FileLaws.{sets_snoc}
use Rattle.file.specs.Words.{words_of}

pub words-length : (c : ℕ) (bs : List ℕ) → length (words_of c bs) ≡ c
words-length zero bs = refl
words-length (suc c) bs = ap suc (words-length c (drop 4 bs))

pub words-next : (c : ℕ) (bs : List ℕ) → words_of (c + 1) bs ≡ words_of c bs ++ number_of 4 (drop (4 * c) bs) ∷ []
words-next c bs = ap (λ n. words_of n bs) (add-one c) ∙ go c bs
  where
    go : (c : ℕ) (bs : List ℕ) → words_of (suc c) bs ≡ words_of c bs ++ number_of 4 (drop (4 * c) bs) ∷ []
    go zero bs = refl
    go (suc c) bs =
        ap {B = List ℕ} (λ r. number_of 4 bs ∷ r) (go c (drop 4 bs))
        ∙ ap {B = List ℕ} (λ r. number_of 4 bs ∷ words_of c (drop 4 bs) ++ number_of 4 r ∷ []) (drop-drop (4 * c) 4 bs
        ∙ ap (λ n. drop n bs) (let e : 4 + 4 * c ≡ 4 * suc c = omega arith in e))

-- word s
pub words-at : (c : ℕ) (bs : List ℕ) (s : ℕ) → s < c → get_or (words_of c bs) s 0 ≡ number_of 4 (drop (4 * s) bs)
words-at zero bs s h = absurd (omega arith)
words-at (suc c) bs zero h = refl
words-at (suc c) bs (suc s) h =
    words-at c (drop 4 bs) s (omega arith)
    ∙ ap (number_of 4) (drop-drop (4 * s) 4 bs ∙ ap (λ n. drop n bs) (let e : 4 + 4 * s ≡ 4 * suc s = omega arith in e))

-- the words stored at the front of an array
pub words-front : (xs : List ℕ) (c : ℕ) (bs : List ℕ) → c ≤ length xs → take c (sets xs 0 (words_of c bs)) ≡ words_of c bs
words-front xs c bs h =
    ap (take c) (sets-eq (words_of c bs) xs 0 (omega (arith, words-length c bs)))
    ∙ take_at (words_of c bs) (drop (0 + length (words_of c bs)) xs) c (words-length c bs)

-- one word more
pub words_store : (xs : List ℕ) (c : ℕ) (bs : List ℕ) (w : ℕ) → w ≡ number_of 4 (drop (4 * c) bs)
    → set (sets xs 0 (words_of c bs)) c w ≡ sets xs 0 (words_of (c + 1) bs)
words_store xs c bs w h =
    ap₂ (λ k v. set (sets xs 0 (words_of c bs)) k v) (let e : c ≡ 0 + length (words_of c bs) = omega (arith, words-length c bs) in e) h
    ∙ sym (sets_snoc xs 0 (words_of c bs) (number_of 4 (drop (4 * c) bs)))
    ∙ sym (ap (sets xs 0) (words-next c bs))
