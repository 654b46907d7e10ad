-- The records of an accepted trace stand one after the other: what the list of the offsets that are left says of the next record.
use Prim.Native.Nat.{ℕ, zero, suc, ◌+◌, ◌-◌, ◌≤◌, ◌<◌}
use native.Mathlib.Omega.{arith}
use Rattle.std.proofs.Common.{length-drop, drop-drop, ap₂}
use mathlib.Core.Path.{◌≡◌, refl, sym, ap, ◌∙◌, subst}
use mathlib.Core.Bool.{true}
use mathlib.Core.List.{List, [], ◌∷◌}
use lib.ListN.{length, drop}
use Rattle.expr.specs.Lists.{All}
use Rattle.expr.specs.Number.{Byte, number_of}
use Rattle.file.specs.File.{header_size, header_count, after_header, frame}
use Rattle.file.specs.Shown.{is_accepted, offsets_from, offsets_in}
use Rattle.file.proofs.FileLaws.{frame-there}
use Rattle.trace.specs.Trace.{read_trace}
use Rattle.trace.specs.Shown.{Stand}
use Rattle.trace.proofs.Passes.{Passing, pass-start, Passed, pass}

-- ---- the offsets of n records

pub offsets-none : (n at : ℕ) (bs : List ℕ) → n ≡ 0 → offsets_from n at bs ≡ []
unfolding offsets_from
offsets-none n at bs e = ap (λ n. offsets_from n at bs) e

offsets-many : (n at : ℕ) (bs : List ℕ) → length (offsets_from n at bs) ≡ n
unfolding offsets_from
offsets-many zero at bs = refl
offsets-many (suc n) at bs = ap suc (offsets-many n (at + (2 + frame bs)) (drop (2 + frame bs) bs))

module _ (s : List ℕ) (at : ℕ) (len : ℕ) (q : len ≡ number_of 2 (drop at s)) where
  -- the next record's offset, and those behind it
  pub offsets-next : (n : ℕ) → (n ≡ 0 → ⊥) → Stand n s at
      → offsets_from n at (drop at s) ≡ at ∷ offsets_from (n - 1) (at + (2 + len)) (drop (at + (2 + len)) s)
  unfolding offsets_from
  offsets-next zero z h = absurd (z refl)
  offsets-next (suc n) z h =
      let f : frame (drop at s) ≡ len = frame-there (drop at s) (omega (arith, h.0, length-drop at s)) ∙ sym q in
      let m : n ≡ suc n - 1 = omega arith in
      ap (λ m. at ∷ offsets_from n (at + (2 + m)) (drop (2 + m) (drop at s))) f
      ∙ ap (λ b. at ∷ offsets_from n (at + (2 + len)) b) (drop-drop (2 + len) at s)
      ∙ ap (λ n. at ∷ offsets_from n (at + (2 + len)) (drop (at + (2 + len)) s)) m

-- ---- in an accepted trace

pub passing-stand : (n : ℕ) {s : List ℕ} {k at : ℕ} → Passing s k at → k + n ≤ header_count s → Stand n s at
passing-stand zero v h = tt
passing-stand (suc n) {s} {k} {at} v h =
    let here = pass v (omega arith) in (here.here.whole, passing-stand n (here.then (number_of 2 (drop at s)) refl) (omega arith))

pub accepted-stand : (n : ℕ) (s : List ℕ) → All Byte s → is_accepted (read_trace s) ≡ true → n ≤ header_count s → {at : ℕ}
    → at ≡ header_size s → Stand n s at
accepted-stand n s o h q front = passing-stand n (pass-start s o h front) (omega arith)

-- ---- a loop over them

-- behind the k-th record, with the list of the offsets that are left
pub record Walking (s : List ℕ) (n k : ℕ) (left : List ℕ) : Type 0 where
  pub at : ℕ
  pub passing : Passing s k at
  pub rest : left ≡ offsets_from (n - k) at (drop at s)

abbrev pub walking-start : (s : List ℕ) (n : ℕ) → All Byte s → is_accepted (read_trace s) ≡ true → {left : List ℕ} → left ≡ offsets_in n s
    → Walking s n 0 left
walking-start s n o h e = record {
  at = header_size s;
  passing = pass-start s o h refl;
  rest = e ∙ ap (λ m. offsets_from m (header_size s) (after_header s)) (let z : n ≡ n - 0 = omega arith in z);
}

-- a turn: the k-th record, and the loop behind it
pub record Turn (s : List ℕ) (n k from at : ℕ) (left : List ℕ) : Type 0 where
  pub more : k < n
  pub is : from ≡ at
  pub here : Passing s k at
  pub passed : Passed s k at
  pub then : Walking s n (k + 1) left
  pub on : then.at ≡ at + (2 + number_of 2 (drop at s))

module _ {s : List ℕ} {n k : ℕ} {left : List ℕ} (v : Walking s n k left) where
  -- the offsets of m records behind the one at a
  abbrev after_record : (m a : ℕ) → List ℕ
  after_record m a = offsets_from m (a + (2 + number_of 2 (drop a s))) (drop (a + (2 + number_of 2 (drop a s))) s)

  many : length left ≡ n - k
  many = ap length v.rest ∙ offsets-many (n - k) v.at (drop v.at s)

  pub walking-turn : n ≤ header_count s → (at : ℕ) (behind : List ℕ) → left ≡ at ∷ behind → Turn s n k v.at at behind
  walking-turn h at behind e =
      let one : length left ≡ suc (length behind) = ap length e in
      let more : k < n = omega (arith, one, many) in
      let next = offsets-next s v.at (number_of 2 (drop v.at s)) refl (n - k) (λ z. omega arith)
      (passing-stand (n - k) v.passing (omega arith)) in
      let all = sym e ∙ v.rest ∙ next in
      let same : v.at ≡ at = cc in
      let tail : behind ≡ after_record (n - k - 1) v.at = cc in
      let here = subst (Passing s k) same v.passing in
      let p = pass here (omega arith) in
      record {
        more = more;
        is = same;
        here = here;
        passed = p;
        then = record {
          at = at + (2 + number_of 2 (drop at s));
          passing = p.then (number_of 2 (drop at s)) refl;
          rest = tail ∙ ap₂ after_record (let z : n - k - 1 ≡ n - (k + 1) = omega arith in z) same;
        };
        on = refl;
      }

  pub walking-end : left ≡ [] → n ≤ k
  walking-end e = omega (arith, many, ap length e)
