-- The last Assert: what the statements that are left say of it, or else what those before them said.
use Rattle.std.proofs.Common.{ℕ, ◌+◌, ◌≤◌, ◌<◌, arith, ◌≡◌, refl, sym, ap, ◌∙◌, subst, Bool, true, false, cond, ◌||◌, List, [], ◌∷◌, length}
use Rattle.std.proofs.Common.{drop}
use Rattle.expr.specs.Lists.{All}
use Rattle.expr.specs.Number.{Byte, number_of}
use Rattle.expr.specs.declared.token.Token.{Token}
use Rattle.file.specs.Outcome.{Kind, Assume, Assert, Bound}
use Rattle.file.specs.File.{header_count}
use Rattle.file.specs.Shown.{is_accepted, listed, offsets_in}
use Rattle.trace.specs.Trace.{Stmt, Assign, Test, read_trace}
use Rattle.trace.specs.Asserts.{is_assert, has_assert, asserted}
use Rattle.trace.specs.AssertsLaws.{asserted_none}
use Rattle.trace.specs.declared.read.Action.{Action}
use Rattle.trace.specs.declared.read.Action.TheVariants as A
use Rattle.trace.specs.Shown.{symbol_room, loose, expr_of, action_at}
use Rattle.trace.proofs.Held.{Held, acts-assign, acts-test}
use Rattle.trace.proofs.Passes.{known, pass-end}
use Rattle.trace.proofs.Standing.{Walking, walking-start, Turn, walking-turn, walking-end}
use Rattle.script.specs.Shown.{test_count, seen_after, statements_after, tests_after}

-- k statements of ts, `seen` of them tests, stand before those that are left
pub record Left (ts : List Stmt) (k seen statements tests : ℕ) (left : List Stmt) : Type 0 where
  pub last : cond (has_assert left) (k + length (asserted left)) statements ≡ length (asserted ts)
  pub inner : cond (has_assert left) (seen + test_count (asserted left)) tests ≡ test_count (asserted ts)

left-start : (ts : List Stmt) → Left ts 0 0 0 0 ts
left-start ts = go (has_assert ts) refl
  where
    go : (b : Bool) → has_assert ts ≡ b → Left ts 0 0 0 0 ts
    go true h = record { last = rw h (omega arith); inner = rw h (omega arith) }
    go false h = let z = asserted_none ts h in record { last = rw h (sym (ap length z)); inner = rw h (sym (ap test_count z)) }

module _ (ts : List Stmt) (k seen statements tests p : ℕ) (e : List Token) (ls : List Stmt) where
  assign-left : (x : ℕ) → Left ts k seen statements tests (Assign p x e ∷ ls) → Left ts (k + 1) seen statements tests ls
  assign-left x v = go (has_assert ls) refl v.last v.inner
    where
      go : (b : Bool) → has_assert ls ≡ b
          → cond b (k + length (cond b (Assign p x e ∷ asserted ls) [])) statements ≡ length (asserted ts)
          → cond b (seen + test_count (cond b (Assign p x e ∷ asserted ls) [])) tests ≡ test_count (asserted ts)
          → Left ts (k + 1) seen statements tests ls
      go true h a b = record { last = rw h (omega arith); inner = rw h b }
      go false h a b = record { last = rw h a; inner = rw h b }

  other-left : (d : Kind) → is_assert d ≡ false → Left ts k seen statements tests (Test d p e ∷ ls)
      → Left ts (k + 1) (seen + 1) statements tests ls
  other-left d n v =
      go (has_assert ls) refl
      (subst (λ b. cond (b || has_assert ls) (k + length (cond (b || has_assert ls) (Test d p e ∷ asserted ls) [])) statements
      ≡ length (asserted ts)) n v.last)
      (subst (λ b. cond (b || has_assert ls) (seen + test_count (cond (b || has_assert ls) (Test d p e ∷ asserted ls) [])) tests
      ≡ test_count (asserted ts)) n v.inner)
    where
      go : (b : Bool) → has_assert ls ≡ b
          → cond b (k + length (cond b (Test d p e ∷ asserted ls) [])) statements ≡ length (asserted ts)
          → cond b (seen + test_count (cond b (Test d p e ∷ asserted ls) [])) tests ≡ test_count (asserted ts)
          → Left ts (k + 1) (seen + 1) statements tests ls
      go true h a b = record { last = rw h (omega arith); inner = rw h (omega arith) }
      go false h a b = record { last = rw h a; inner = rw h b }

  assert-left : Left ts k seen statements tests (Test Assert p e ∷ ls) → Left ts (k + 1) (seen + 1) (k + 1) (seen + 1) ls
  assert-left v = go (has_assert ls) refl
    where
      go : (b : Bool) → has_assert ls ≡ b → Left ts (k + 1) (seen + 1) (k + 1) (seen + 1) ls
      go true h = record { last = rw h (omega (arith, v.last)); inner = rw h (omega (arith, v.inner)) }
      go false h =
          let y : length (asserted ls) ≡ 0 = ap length (asserted_none ls h) in
          let z : test_count (asserted ls) ≡ 0 = ap test_count (asserted_none ls h) in
          record { last = rw h (omega (arith, v.last)); inner = rw h (omega (arith, v.inner)) }

-- by what the statement of the record at an offset does
action-left : (ts : List Stmt) (k seen statements tests : ℕ) {s : List ℕ} {at : ℕ} (h : Held symbol_room loose s at) (a : Action)
    → a ≡ action_at s at → (t : Stmt) → h.statement ≡ t → (ls : List Stmt) → Left ts k seen statements tests (t ∷ ls)
    → Left ts (k + 1) (seen_after a seen) (statements_after a (k + 1) statements) (tests_after a seen tests) ls
action-left ts k seen statements tests {s} {at} h a q t z ls v = go a q
  where
    by : (u : Stmt) → h.statement ≡ u → Left ts k seen statements tests (u ∷ ls)
    by u e = subst (λ x. Left ts k seen statements tests (x ∷ ls)) (sym z ∙ e) v

    place : ℕ
    place = number_of 2 (drop (at + 3) s)

    e : List Token
    e = expr_of h.statement

    go : (a : Action) → a ≡ action_at s at
        → Left ts (k + 1) (seen_after a seen) (statements_after a (k + 1) statements) (tests_after a seen tests) ls
    go (A.Assign x) q = assign-left ts k seen statements tests place e ls x (by _ (acts-assign h x (sym q)).0)
    go (A.Test Assume) q = other-left ts k seen statements tests place e ls Assume refl (by _ (acts-test h Assume (sym q)))
    go (A.Test Assert) q = assert-left ts k seen statements tests place e ls (by _ (acts-test h Assert (sym q)))
    go (A.Test Bound) q = other-left ts k seen statements tests place e ls Bound refl (by _ (acts-test h Bound (sym q)))

-- ---- the loop

pub record Seeking (s : List ℕ) (n k : ℕ) (left : List ℕ) (count seen statements tests : ℕ) : Type 0 where
  pub walking : Walking s n k left
  pub many : n ≡ header_count s
  pub most : n ≤ 4096
  pub here : count ≡ k
  pub counted : seen ≤ k
  pub notes : Left (listed (read_trace s)) k seen statements tests (drop k (listed (read_trace s)))

pub seeking_start : (s : List ℕ) (n : ℕ) → All Byte s → is_accepted (read_trace s) ≡ true → n ≡ header_count s → {left : List ℕ}
    → left ≡ offsets_in n s → Seeking s n 0 left 0 0 0 0
seeking_start s n o h q e = record {
  walking = walking-start s n o h e;
  many = q;
  most = omega (arith, (known s h).few);
  here = refl;
  counted = omega arith;
  notes = left-start (listed (read_trace s));
}

module _ {s : List ℕ} {n k : ℕ} {left : List ℕ} {count seen statements tests : ℕ}
    (v : Seeking s n k left count seen statements tests) where
  -- the next offset is `at`
  module _ (at : ℕ) (behind : List ℕ) (e : left ≡ at ∷ behind) where
    pub seeking_turn : Turn s n k v.walking.at at behind
    seeking_turn = walking-turn v.walking (omega (arith, v.many)) at behind e

    pub seeking_low : (count < 65536) × (seen < 65536)
    seeking_low = (omega (arith, v.here, v.most, seeking_turn.more), omega (arith, v.counted, v.most, seeking_turn.more))

    -- with the code's own count of the records
    pub seeking_on : {k' : ℕ} → k' ≡ k + 1 → (act : Action) → act ≡ action_at s at → {c a b d : ℕ}
        → (c ≡ count + 1) × (a ≡ seen_after act seen) × (b ≡ statements_after act (count + 1) statements)
        × (d ≡ tests_after act seen tests) → Seeking s n k' behind c a b d
    seeking_on q act f {c} {a} {b} {d} (w, x, y, z) =
        let ts = listed (read_trace s) in
        let passed = seeking_turn.passed in
        let here = passed.here in
        let same : here.statement ≡ passed.statement = (let w = sym here.is ∙ passed.holds in cc) in
        let next = action-left ts k seen statements tests here act f passed.statement same (drop (k + 1) ts)
        (subst (Left ts k seen statements tests) passed.split v.notes) in
        rw q (record {
          walking = seeking_turn.then;
          many = v.many;
          most = v.most;
          here = omega (arith, v.here);
          counted = (let w = after_le act in omega (arith, v.counted));
          notes = rw (x, y, z, v.here) next;
        })
      where
        after_le : (act : Action) → seen_after act seen ≤ seen + 1
        after_le (A.Assign x) = omega arith
        after_le (A.Test d) = omega arith

  pub seeking_end : left ≡ [] → (statements ≡ length (asserted (listed (read_trace s))))
      × (tests ≡ test_count (asserted (listed (read_trace s))))
  seeking_end e =
      let ts = listed (read_trace s) in
      let none = pass-end v.walking.passing (omega (arith, v.many, walking-end v.walking e)) in
      let w = subst (Left ts k seen statements tests) none v.notes in
      (w.last, w.inner)
