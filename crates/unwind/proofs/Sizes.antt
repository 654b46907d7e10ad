-- A record's size is its expression's and 20, 21 or 29 by its kind. What is summed and what is left make a copy's size, with the exit's 25
-- twice: the sum begins with it.
use Prim.Native.Nat.{ℕ, suc, ◌+◌, ◌*◌, ◌≤◌, ◌<◌}
use native.Mathlib.Omega.{arith}
use native.Mathlib.Numerals.{add-one}
use mathlib.Core.Path.{◌≡◌, refl, sym, ap, ap₂, ◌∙◌}
use mathlib.Core.Bool.{Bool, true, false, cond, ◌&&◌}
use mathlib.Core.List.{List, ◌∷◌}
use mathlib.Core.Logic.{◌⊎◌, inl, inr}
use lib.ListN.{length, drop, get_or, length-drop, drop_of_length-le}
use lib.Seq.{drop-drop}
use lib.Dec.{leb}
use borrow.Author.Tests.{le-leb, lt-leb}
use Rattle.expr.specs.declared.File.TheVariants.{Table}
use Rattle.expr.specs.Lists.{All}
use Rattle.expr.specs.Number.{Byte}
use Rattle.expr.specs.Expr.{parse}
use Rattle.expr.specs.Shown.{is_whole}
use Rattle.file.specs.File.{input_room, Body, Good, record_of}
use Rattle.file.specs.Outcome.{Kind}
use Rattle.file.specs.Shown.{is_good, listed}
use Rattle.table.specs.Table.{Instr, Assign, Test, IfThenGoto, instr, read_table}
use Rattle.file.proofs.RecordLaws.{rest-length}
use Rattle.table.specs.declared.read.Action.{Action}
use Rattle.table.specs.declared.read.Action.TheVariants as A
use Rattle.table.specs.Shown.{expr_start, expr_part, action_at, expr_of, Ready}
use Rattle.table.proofs.Held.{Held}
use Rattle.table.proofs.Moves.{expr-whole, assign-is, test-is, goto-is}
use Rattle.unwind.specs.Size.{expr_size, instr_size, copy_size}
use Rattle.expr.specs.Shown.{tokens_of}
use Rattle.unwind.specs.Shown.{known, size_in}
use Rattle.unwind.proofs.Accepted.{At, counted, few, few-inputs, instr-here}

-- ---- one record

-- the sizes of instruction i, in the copies before the last one and in the last one
abbrev pub AreSizes : (i : ℕ) → Body Instr → (early last : ℕ) → Type 0
AreSizes i rec early last = (early ≡ size_in false i rec) × (last ≡ size_in true i rec) × (early ≤ 131200) × (last ≤ 131200)

module _ {n : ℕ} {s : List ℕ} {at : ℕ} (h : Held input_room n s at) where
  -- the size of the record's expression
  pub record Measured (size : ℕ) : Type 0 where
    pub is : size ≡ expr_size (expr_of h.instruction)
    pub little : size ≤ 131070

  -- the part that the code cuts out
  module _ (o : length s < 65536) {part : List ℕ} (q : part ≡ expr_part s at) where
    pub measurable : (is_whole (parse Table known part) ≡ true) × (length part < 65536)
    measurable = (
      ap is_whole (expr-whole h q),
      omega (
        arith,
        ap length q,
        rest-length s at (expr_start (get_or s (at + 2) 0)) h.whole h.starts,
        h.whole,
      ),
    )

    pub measured : (size : ℕ) → size ≡ expr_size (tokens_of (parse Table known part)) → size ≤ 2 * length part → Measured size
    measured size e l = record { is = e ∙ ap (λ e. expr_size (tokens_of e)) (expr-whole h q); little = omega (arith, measurable.1) }

  module _ {size : ℕ} (m : Measured size) (i : ℕ) where
    abbrev rec : Body Instr
    rec = record_of (instr input_room n) (drop at s)

    -- the size of the record, by the form of its instruction
    by : (last : Bool) (x : Instr) → h.instruction ≡ x → size_in last i rec ≡ instr_size last i x
    by last x e = ap (size_in last i) h.is ∙ ap (instr_size last i) e

    -- an Assign or a test
    plain : (x : Instr) → h.instruction ≡ x → ((last : Bool) → instr_size last i x ≡ 20 + expr_size (expr_of h.instruction))
        → AreSizes i rec (20 + size) (20 + size)
    plain x e f = (is_size false, is_size true, omega (arith, m.little), omega (arith, m.little))
      where
        is_size : (last : Bool) → 20 + size ≡ size_in last i rec
        is_size last = ap (λ z. 20 + z) m.is ∙ sym (by last x e ∙ f last)

    pub no_jump : {a : Action} → a ≡ action_at s at → ((y : ℕ) × (a ≡ A.Assign y)) ⊎ ((k : Kind) × (a ≡ A.Test k))
        → AreSizes i rec (20 + size) (20 + size)
    no_jump p (inl (y, q)) = plain (Assign y (expr_of h.instruction)) (assign-is h.instruction y (sym h.acts ∙ sym p ∙ q)) (λ last. refl)
    no_jump p (inr (k, q)) = plain (Test k (expr_of h.instruction)) (test-is h.instruction k (sym h.acts ∙ sym p ∙ q)) (λ last. refl)

    module _ (t : ℕ) (a : action_at s at ≡ A.Goto t) where
      goto_size : (last : Bool) → cond (last && leb t i) 21 29 + size ≡ size_in last i rec
      goto_size last =
          ap (λ z. cond (last && leb t i) 21 29 + z) m.is
          ∙ sym (by last (IfThenGoto t (expr_of h.instruction)) (goto-is h.instruction t (sym h.acts ∙ a)))

      pub jumps-on : i < t → AreSizes i rec (29 + size) (29 + size)
      jumps-on j = (
        goto_size false,
        ap (λ b. cond b 21 29 + size) (sym (lt-leb t i j))
            ∙ goto_size true,
        omega (arith, m.little),
        omega (arith, m.little),
      )

      pub jumps-back : t ≤ i → AreSizes i rec (29 + size) (21 + size)
      jumps-back j = (
        goto_size false,
        ap (λ b. cond b 21 29 + size) (sym (le-leb t i j))
            ∙ goto_size true,
        omega (arith, m.little),
        omega (arith, m.little),
      )

-- ---- a copy

-- what is summed before instruction i
pub record Summing (last : Bool) (is : List Instr) (i sum : ℕ) : Type 0 where
  pub inside : i ≤ length is
  pub whole : sum + copy_size last i (drop i is) ≡ copy_size last 0 is + 25
  pub little : sum ≤ 25 + i * 131200

module _ {last : Bool} {is : List Instr} {i sum : ℕ} (v : Summing last is i sum) where
  sum-on : (x : Instr) (xs : List Instr) → drop i is ≡ x ∷ xs → (size : ℕ) → size ≡ instr_size last i x → size ≤ 131200
      → Summing last is (i + 1) (sum + size)
  sum-on x xs e size q h =
      let r : drop (i + 1) is ≡ xs = sym (drop-drop 1 i is) ∙ ap (drop 1) e in
      let w : copy_size last i (drop i is) ≡ instr_size last i x + copy_size last (suc i) xs = ap (copy_size last i) e in
      let y : copy_size last (i + 1) (drop (i + 1) is) ≡ copy_size last (suc i) xs = ap₂ (copy_size last) (add-one i) r in
      record {
        inside = omega (arith, v.inside, ap length e, length-drop i is);
        whole = omega (arith, v.whole);
        little =
            omega (arith, v.little);
      }

  summed : length is ≤ i → sum ≡ copy_size last 0 is
  summed h =
      let w : copy_size last i (drop i is) ≡ 25 = ap (copy_size last i) (drop_of_length-le is {i = i} h) in
      omega (arith, v.whole)

-- the copy of a table that is accepted
module _ (s off : List ℕ) (n : ℕ) (o : All Byte s) (r : Ready s off n) where
  abbrev is : List Instr
  is = listed (read_table s)

  at_hand : (i : ℕ) → i < n → At s off n input_room i
  at_hand i h = instr-here s off n o r input_room (few-inputs s off n o r) i h

  good-at : (i : ℕ) (h : i < n) (at : ℕ) → at ≡ get_or off i 0
      → record_of (instr input_room n) (drop at s) ≡ Good (at_hand i h).instruction
  good-at i h at p = ap (λ at. record_of (instr input_room n) (drop at s)) p ∙ (at_hand i h).good

  pub readable : (i : ℕ) → i < n → (at : ℕ) → at ≡ get_or off i 0 → is_good (record_of (instr input_room n) (drop at s)) ≡ true
  readable i h at p = ap is_good (good-at i h at p)

  pub record-on : (last : Bool) (i sum size : ℕ) → i < n → Summing last is i sum → (at : ℕ) → at ≡ get_or off i 0
      → size ≡ size_in last i (record_of (instr input_room n) (drop at s)) → size ≤ 131200
      → Summing last is (i + 1) (sum + size)
  record-on last i sum size h v at p q =
      let x = at_hand i h in
      sum-on v x.instruction x.after x.is-here size (q ∙ ap (size_in last i) (good-at i h at p))

  pub copy_summed : {last : Bool} {i sum : ℕ} → Summing last is i sum → n ≤ i → (sum ≡ copy_size last 0 is) × (sum ≤ 134348825)
  copy_summed v h =
      (summed v (omega (arith, counted s off n o r)), omega (arith, v.little, v.inside, counted s off n o r, few s off n o r))

-- ---- a trace
