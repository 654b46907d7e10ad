-- A record that is read, by the bytes of the file at its offset: its body's parts, its kind and its numbers.
use Rattle.std.specs.Prelude.{ℕ, ◌+◌, ◌-◌, ◌≤◌, ◌<◌, ◌≡◌, List, length, take, drop, get_or}
use Rattle.std.proofs.Common.{arith, sym, ap, ap₂, ◌∙◌, length-drop, length-take-le, get_or-take, get_or-drop, drop-drop}
use Rattle.expr.specs.Lists.{drop-take}
use Rattle.expr.specs.Number.{number_of}
use Rattle.expr.specs.NumberLaws.{number-take}
use Rattle.file.specs.File.{Body, Good, frame, record_of}
use Rattle.file.specs.Shown.{rest_of}
use Rattle.file.proofs.FileLaws.{framed, record-good}

pub rest-length : (s : List ℕ) (at from : ℕ) → at + (2 + number_of 2 (drop at s)) ≤ length s → from ≤ 2 + number_of 2 (drop at s)
    → from + length (rest_of s at from) ≡ 2 + number_of 2 (drop at s)
rest-length s at from h l =
    omega (arith, length-take-le (2 + number_of 2 (drop at s) - from) (drop (at + from) s) (omega (arith, length-drop (at + from) s)))

module _ {A : Type 0} (one : List ℕ → Body A) (s : List ℕ) (at : ℕ) (a : A) (g : record_of one (drop at s) ≡ Good a) where
  abbrev pub body : List ℕ
  body = take (frame (drop at s)) (drop 2 (drop at s))

  some : (frame (drop at s) ≡ 0 → ⊥) × (one (take (frame (drop at s)) (drop 2 (drop at s))) ≡ Good a)
  some = record-good one (drop at s) a g

  pub read-body : one (take (frame (drop at s)) (drop 2 (drop at s))) ≡ Good a
  read-body = some.1

  is-frame : number_of 2 (drop at s) ≡ frame (drop at s)
  is-frame = (framed (drop at s) some.0).is

  inside : at + 2 + frame (drop at s) ≤ length s
  inside = omega (arith, (framed (drop at s) some.0).inside, length-drop at s, some.0)

  pub body-length : length body ≡ number_of 2 (drop at s)
  body-length =
      length-take-le (frame (drop at s)) (drop 2 (drop at s)) (omega (arith, inside, length-drop at s, length-drop 2 (drop at s)))
      ∙ sym is-frame

  pub body_some : 0 < length body
  body_some = omega (arith, body-length, is-frame, some.0)

  pub body-inside : at + (2 + number_of 2 (drop at s)) ≤ length s
  body-inside = omega (arith, is-frame, inside)

  from : (k : ℕ) → drop k (drop 2 (drop at s)) ≡ drop (at + (2 + k)) s
  from k = drop-drop k 2 (drop at s) ∙ drop-drop (2 + k) at s

  -- the bytes of the body from k on
  pub body-part : (k : ℕ) → drop k body ≡ rest_of s at (2 + k)
  body-part k =
      drop-take k (frame (drop at s)) (drop 2 (drop at s))
      ∙ ap₂ (λ m r. take m r) (let e : frame (drop at s) - k ≡ 2 + number_of 2 (drop at s) - (2 + k) = omega (arith, is-frame) in e)
      (from k)

  pub body-kind : get_or body 0 0 ≡ get_or s (at + 2) 0
  body-kind =
      get_or-take (frame (drop at s)) (drop 2 (drop at s)) 0 0 (omega (arith, some.0))
      ∙ get_or-drop 2 (drop at s) 0 0 ∙ get_or-drop at s 2 0

  -- the number of j bytes from i on
  pub body-number : (i j : ℕ) → i + j ≤ length body → number_of j (drop i body) ≡ number_of j (drop (at + (2 + i)) s)
  body-number i j h =
      ap (number_of j) (drop-take i (frame (drop at s)) (drop 2 (drop at s)))
      ∙ number-take 0 j (frame (drop at s) - i) (drop i (drop 2 (drop at s))) (omega (arith, body-length, is-frame))
      ∙ ap (number_of j) (from i)
