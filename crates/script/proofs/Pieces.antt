-- What the inputs, and the statements, add to a part of the script: by the record at an offset, and in the loops over them.
use Rattle.std.proofs.Common.{ℕ, zero, suc, ◌+◌, ◌-◌, ◌*◌, ◌^◌, ◌≤◌, ◌<◌, arith, ◌≡◌, refl, sym, ap, ap₂, ◌∙◌, subst, true, List, [], ◌∷◌}
use Rattle.std.proofs.Common.{◌++◌, take, drop}
use Rattle.expr.specs.declared.File.TheVariants.{Trace}
use Rattle.expr.specs.Lists.{All}
use Rattle.expr.specs.Number.{Byte, number_of}
use Rattle.expr.specs.declared.token.Token.{Token}
use Rattle.expr.specs.Expr.{below, parse}
use Rattle.expr.specs.Shown.{tokens_of}
use Rattle.file.specs.Outcome.{Kind, Assume, Assert, Bound}
use Rattle.file.specs.File.{input_room, header_count, Good}
use Rattle.file.specs.Shown.{is_good, is_accepted, listed, offsets_in}
use Rattle.trace.specs.Trace.{Assign, Test, read_trace}
use Rattle.trace.specs.Shown.{symbol_room, loose, held, expr_part, action_at, expr_of}
use Rattle.trace.specs.declared.read.Action.TheVariants as A
use Rattle.trace.proofs.Held.{Held, acts-assign, acts-test}
use Rattle.trace.proofs.Passes.{tokens_are}
use Rattle.trace.proofs.Standing.{Walking, walking-start, Turn, walking-turn, walking-end}
use Rattle.write.specs.Splice.{Wrote}
use Rattle.write.specs.SpliceLaws.{Ahead, ahead_start, ahead_step, ahead_end}
use Rattle.write.specs.Ascii.{ascii}
use Rattle.script.specs.Shown.{Part, Declarations, Equations, Tests}
use Rattle.script.specs.Script.{numbers_from}
use Rattle.script.specs.ScriptText.{declaration, declarations}
use Rattle.script.specs.Shown.{opening, piece, piece_in, pieces}

-- ---- one record

pub opening-assert : (k : Kind) → k ≡ Assert → ascii "(or (= #x00000000 " ≡ ascii (opening k)
opening-assert k e = sym (ap (λ k. ascii (opening k)) e)

pub opening-assume : (k : Kind) → (k ≡ Assert → ⊥) → ascii "(and (distinct #x00000000 " ≡ ascii (opening k)
opening-assume Assume e = refl
opening-assume Assert e = absurd (e refl)
opening-assume Bound e = refl

-- a statement's place adds nothing
assign_anywhere : (part : Part) (p q x : ℕ) (e : List Token) → piece part (Assign p x e) ≡ piece part (Assign q x e)
assign_anywhere Declarations p q x e = refl
assign_anywhere Equations p q x e = refl
assign_anywhere Tests p q x e = refl

test_anywhere : (part : Part) (k : Kind) (p q : ℕ) (e : List Token) → piece part (Test k p e) ≡ piece part (Test k q e)
test_anywhere Declarations k p q e = refl
test_anywhere Equations k p q e = refl
test_anywhere Tests k p q e = refl

module _ {s : List ℕ} {at : ℕ} (h : Held symbol_room loose s at) {e : List ℕ} (q : e ≡ expr_part s at) (part : Part) where
  pub assign-piece : {y : ℕ} → action_at s at ≡ A.Assign y
      → piece part (Assign 0 y (tokens_of (parse Trace (below symbol_room) e))) ≡ piece_in part (held (drop at s))
  assign-piece {y} k =
      ap (λ t. piece part (Assign 0 y t)) (tokens_are h q)
      ∙ assign_anywhere part 0 (number_of 2 (drop (at + 3) s)) y (expr_of h.statement)
      ∙ sym (ap (piece_in part) (h.is ∙ ap Good (acts-assign h y k).0))

  pub test-piece : {k : Kind} → action_at s at ≡ A.Test k
      → piece part (Test k 0 (tokens_of (parse Trace (below symbol_room) e))) ≡ piece_in part (held (drop at s))
  test-piece {k} z =
      ap (λ t. piece part (Test k 0 t)) (tokens_are h q)
      ∙ test_anywhere part k 0 (number_of 2 (drop (at + 3) s)) (expr_of h.statement)
      ∙ sym (ap (piece_in part) (h.is ∙ ap Good (acts-test h k z)))

-- ---- the inputs

pub record Declaring (n : ℕ) (out₀ : List ℕ) (at : ℕ) (out : List ℕ) (k to : ℕ) : Type 0 where
  pub left : ℕ
  pub sum : k + left ≡ n
  pub wrote : Ahead out to (declarations (numbers_from k left)) out₀ at (declarations (numbers_from 0 n))
  pub little : to ≤ at + 42 * k

pub declaring_start : (n : ℕ) (out : List ℕ) (at : ℕ) → Declaring n out at out 0 at
declaring_start n out at = record { left = n; sum = omega arith; wrote = ahead_start out at _; little = omega arith }

module _ {n : ℕ} {out₀ : List ℕ} {at : ℕ} {out : List ℕ} {k to : ℕ} (v : Declaring n out₀ at out k to) where
  pub declaring_on : k < n → {out' : List ℕ} {to' : ℕ} → Wrote out to (declaration k) out' to' × (to' ≤ to + 42)
      → Declaring n out₀ at out' (k + 1) to'
  declaring_on h {out'} {to'} (w, l) = go v.left v.sum v.wrote
    where
      go : (m : ℕ) → k + m ≡ n → Ahead out to (declarations (numbers_from k m)) out₀ at (declarations (numbers_from 0 n))
          → Declaring n out₀ at out' (k + 1) to'
      go zero q a = absurd (omega arith)
      go (suc m) q a = record {
        left = m;
        sum = omega arith;
        wrote = ahead_step a (ap (λ x. declaration k ++ declarations (numbers_from x m)) (let z : suc k ≡ k + 1 = omega arith in z)) w;
        little = omega (arith, v.little);
      }

  pub declaring_end : n ≤ k → n ≤ input_room → Wrote out₀ at (declarations (numbers_from 0 n)) out to × (to ≤ at + 42 * input_room)
  declaring_end h l = (
    ahead_end v.wrote (ap (λ m. declarations (numbers_from k m)) (let q : v.left ≡ 0 = omega (arith, v.sum) in q)),
    omega (arith, v.little, v.sum),
  )

-- ---- the statements

pub record Listing (part : Part) (s : List ℕ) (n : ℕ) (out₀ : List ℕ) (to : ℕ) (out : List ℕ) (k : ℕ) (left : List ℕ)
    (next : ℕ) : Type 0 where
  pub walking : Walking s n k left
  pub wrote : Ahead out next (pieces part (take (n - k) (drop k (listed (read_trace s))))) out₀ to
      (pieces part (take n (listed (read_trace s))))
  pub many : n ≤ header_count s
  pub little : next ≤ to + 130 * walking.at

-- with the code's own list of offsets
pub listing_start : (part : Part) (s out : List ℕ) (n to : ℕ) → All Byte s → is_accepted (read_trace s) ≡ true → n ≤ header_count s
    → {left : List ℕ} → left ≡ offsets_in n s → Listing part s n out to out 0 left to
listing_start part s out n to o h q e =
    let ts = listed (read_trace s) in
    record {
      walking = walking-start s n o h e;
      wrote =
          subst (λ m. Ahead out to (pieces part (take m ts)) out to (pieces part (take n ts))) (let z : n ≡ n - 0 = omega arith in z)
          (ahead_start out to (pieces part (take n ts)));
      many = q;
      little = omega arith;
    }

module _ {part : Part} {s : List ℕ} {n : ℕ} {out₀ : List ℕ} {to : ℕ} {out : List ℕ} {k : ℕ} {left : List ℕ} {next : ℕ}
    (v : Listing part s n out₀ to out k left next) where
  -- the next offset is `at`
  module _ (at : ℕ) (behind : List ℕ) (e : left ≡ at ∷ behind) where
    here : Turn s n k v.walking.at at behind
    here = walking-turn v.walking v.many at behind e

    pub listing_low : at < 65536
    listing_low = omega (arith, here.here.inside, here.here.few)

    pub listing_good : is_good (held (drop at s)) ≡ true
    listing_good = ap is_good here.passed.holds

    -- the letters of the piece can be counted
    pub listing_room : to ≤ 30000000 → next + 130 * (2 + number_of 2 (drop at s)) < 2 ^ 64
    listing_room l = omega (arith, v.little, here.is, here.here.few, here.passed.here.whole)

    -- with the code's own count of the records
    pub listing_on : {k' : ℕ} → k' ≡ k + 1 → {out' : List ℕ} {next' : ℕ} → Wrote out next (piece_in part (held (drop at s))) out' next'
        × (next' ≤ next + 130 * (2 + number_of 2 (drop at s))) → Listing part s n out₀ to out' k' behind next'
    listing_on q (w, l) =
        let left = drop (k + 1) (listed (read_trace s)) in
        let m = n - (k + 1) in
        rw q (record {
          walking = here.then;
          wrote =
              ahead_step v.wrote
              (ap₂ (λ j xs. pieces part (take j xs)) (let z : n - k ≡ suc m = omega (arith, here.more) in z) here.passed.split
              ∙ ap (λ b. piece_in part b ++ pieces part (take m left)) (sym here.passed.holds)) w;
          many = v.many;
          little = omega (arith, v.little, here.is, here.on);
        })

  pub listing_end : left ≡ [] → Wrote out₀ to (pieces part (take n (listed (read_trace s)))) out next × (next ≤ to + 130 * 65535)
  listing_end e =
      let done : n - k ≡ 0 = omega (arith, walking-end v.walking e) in (
        ahead_end v.wrote (ap (λ j. pieces part (take j (drop k (listed (read_trace s))))) done),
        omega (arith, v.little, v.walking.passing.inside, v.walking.passing.few),
      )
