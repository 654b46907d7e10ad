-- Four bytes are two and two.
use Rattle.std.proofs.Common.{◌≡◌, ℕ, ◌+◌, ◌*◌, ◌≤◌, List, [], ◌∷◌, length, get_or, drop, ap, arith, length-drop, get_or-drop, ◌∙◌}
use Rattle.expr.specs.Number.{number_of}
use Rattle.expr.specs.NumberLaws.{four-at}
use Rattle.expr.proofs.number.word_at.Goals as goal

two : (s : List ℕ) (i j : ℕ) → i + 2 ≤ length s → i + 1 ≡ j → number_of 2 (drop i s) ≡ get_or s i 0 * 256 + get_or s j 0
two s i j h e =
    go (drop i s) (omega (arith, length-drop i s))
    (get_or-drop i s 0 0 ∙ ap (λ k. get_or s k 0) (let q : i + 0 ≡ i = omega arith in q))
    (get_or-drop i s 1 0 ∙ ap (λ k. get_or s k 0) e)
  where
    go : (bs : List ℕ) → 2 ≤ length bs → get_or bs 0 0 ≡ get_or s i 0 → get_or bs 1 0 ≡ get_or s j 0
        → number_of 2 bs ≡ get_or s i 0 * 256 + get_or s j 0
    go [] l p q = absurd (omega arith)
    go (a ∷ []) l p q = absurd (omega arith)
    go (a ∷ b ∷ bs) l p q = omega arith

pub returns : goal.returns
returns c =
    let s = c.args.s.now in
    let i = c.args.at in
    grind (arith, four-at s i c.requires, two s i (i + 1) (omega arith) (omega arith), two s (i + 2) (i + 3) (omega arith) (omega arith))
