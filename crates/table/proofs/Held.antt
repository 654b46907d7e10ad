-- The instruction that a record holds, read at an offset of the table: where its expression stands, and its symbol, target or kind.
use Prim.Native.Nat.{ℕ, ◌+◌, ◌≤◌, ◌<◌}
use native.Mathlib.Omega.{arith}
use mathlib.Core.Path.{◌≡◌, refl, sym, ap, ◌∙◌, subst}
use mathlib.Core.Bool.{true}
use mathlib.Core.List.{List}
use lib.ListN.{length, take, drop, get_or}
use borrow.Author.Tests.{eq-eqb, ne_eqb}
use Rattle.expr.specs.declared.File.TheVariants.{Table}
use Rattle.expr.specs.Number.{number_of}
use Rattle.expr.specs.declared.token.Token.{Token}
use Rattle.expr.specs.Expr.{below, Whole, parse}
use Rattle.file.specs.Outcome.{Kind, Assume, Assert}
use Rattle.file.specs.File.{Body, Good, Bad, frame, record_of}
use Rattle.file.specs.Shown.{is_good, kind_of, rest_of}
use Rattle.file.proofs.RecordLaws.{read-body, body-length, body_some, body-inside, body-part, body-kind, body-number}
use Rattle.table.specs.Table.{Instr, Assign, Test, IfThenGoto, instr}
use Rattle.table.specs.TableLaws.{Says, says-assign, says-assume, says-assert, says_goto, says}
use Rattle.table.specs.Shown.{expr_start, expr_part, action_at, action_of, expr_of}
use Rattle.table.specs.declared.read.Action.{Action}
use Rattle.table.specs.declared.read.Action.TheVariants as A

-- ---- the record at an offset

pub record Held (T n : ℕ) (s : List ℕ) (at : ℕ) : Type 0 where
  pub instruction : Instr
  pub is : record_of (instr T n) (drop at s) ≡ Good instruction
  pub whole : at + (2 + number_of 2 (drop at s)) ≤ length s
  pub starts : expr_start (get_or s (at + 2) 0) ≤ 2 + number_of 2 (drop at s)
  pub parsed : parse Table (below T) (expr_part s at) ≡ Whole (expr_of instruction)
  pub acts : action_at s at ≡ action_of instruction
  pub symbols : (y : ℕ) → action_of instruction ≡ A.Assign y → y < T
  pub targets : (t : ℕ) → action_of instruction ≡ A.Goto t → t ≤ n
  pub kinds : (get_or s (at + 2) 0 ≡ 1 → ⊥) → (get_or s (at + 2) 0 ≡ 4 → ⊥) → (2 ≤ get_or s (at + 2) 0) × (get_or s (at + 2) 0 ≤ 3)

module _ (T n : ℕ) (s : List ℕ) (at : ℕ) where
  module _ (x : Instr) (g : record_of (instr T n) (drop at s) ≡ Good x) where
    abbrev body : List ℕ
    body = take (frame (drop at s)) (drop 2 (drop at s))

    long : length body ≡ number_of 2 (drop at s)
    long = body-length (instr T n) s at x g

    inside : at + (2 + number_of 2 (drop at s)) ≤ length s
    inside = body-inside (instr T n) s at x g

    kind : get_or body 0 0 ≡ get_or s (at + 2) 0
    kind = body-kind (instr T n) s at x g

    number : (j : ℕ) → 1 + j ≤ length body → number_of j (drop 1 body) ≡ number_of j (drop (at + 3) s)
    number j h = body-number (instr T n) s at x g 1 j h

    -- the expression from k on, where the kind's expression begins at 2 + k
    placed : (k : ℕ) → expr_start (get_or s (at + 2) 0) ≡ 2 + k → (e : List Token) → parse Table (below T) (drop k body) ≡ Whole e
        → parse Table (below T) (expr_part s at) ≡ Whole e
    placed k q e p =
        ap (λ m. parse Table (below T) (rest_of s at m)) q ∙ ap (parse Table (below T)) (sym (body-part (instr T n) s at x g k)) ∙ p

    test : (k : Kind) (e : List Token) → (2 ≤ get_or s (at + 2) 0) × (get_or s (at + 2) 0 ≤ 3) → kind_of (get_or s (at + 2) 0) ≡ k
        → 1 ≤ length body
        → parse Table (below T) (drop 1 body) ≡ Whole e → record_of (instr T n) (drop at s) ≡ Good (Test k e) → Held T n s at
    test k e c d h p g =
        let q : expr_start (get_or s (at + 2) 0) ≡ 3 = rw (
          ne_eqb (get_or s (at + 2) 0) 1 (λ z. omega (arith, c.0)),
          ne_eqb (get_or s (at + 2) 0)
              4 (λ z. omega (arith, c.1)),
        ) in
        record {
          instruction = Test k e;
          is = g;
          whole = inside;
          starts = omega (arith, long);
          parsed = placed 1 q e p;
          acts =
              rw (
                ne_eqb (get_or s (at + 2) 0) 1 (λ z. omega (arith, c.0)),
                ne_eqb (get_or s (at + 2) 0) 4 (λ z. omega (arith, c.1)),
              ) (ap {B = Action} (λ k. A.Test k) d);
          symbols = λ y z. absurd (let x : ◌≡◌ {A = ℕ} 0 1 = cc in omega arith);
          targets = λ y z. absurd (let x : ◌≡◌ {A = ℕ} 0 1 = cc in omega arith);
          kinds = λ y z. c;
        }

    held : (x : Instr) → record_of (instr T n) (drop at s) ≡ Good x → Says T n body x → Held T n s at
    held x g (says-assign e k h m p) =
        let c : get_or s (at + 2) 0 ≡ 1 = sym kind ∙ k in
        let q : expr_start (get_or s (at + 2) 0) ≡ 4 = rw (eq-eqb (get_or s (at + 2) 0) 1 c) in
        let v = number 1 h in
        record {
          instruction = Assign (number_of 1 (drop 1 body)) e;
          is = g;
          whole = inside;
          starts = omega (arith, long);
          parsed = placed 2 q e p;
          acts = rw (eq-eqb (get_or s (at + 2) 0) 1 c) (ap {B = Action} (λ w. A.Assign w) (sym v));
          symbols = λ y z. subst (λ w. w < T) (let x : number_of 1 (drop 1 body) ≡ y = cc in x) m;
          targets = λ y z. absurd (let x : ◌≡◌ {A = ℕ} 0 1 = cc in omega arith);
          kinds = λ y z. absurd (y c);
        }
    held x g (says_goto e k h m p) =
        let c : get_or s (at + 2) 0 ≡ 4 = sym kind ∙ k in
        let q : expr_start (get_or s (at + 2) 0) ≡ 5 = rw (
          ne_eqb (get_or s (at + 2) 0) 1 (λ z. omega arith),
          eq-eqb
              (get_or s (at + 2) 0) 4 c,
        ) in
        let v = number 2 h in
        record {
          instruction = IfThenGoto (number_of 2 (drop 1 body)) e;
          is = g;
          whole = inside;
          starts = omega (arith, long);
          parsed = placed 3 q e p;
          acts =
              rw (ne_eqb (get_or s (at + 2) 0) 1 (λ z. omega arith), eq-eqb (get_or s (at + 2) 0) 4 c)
              (ap {B = Action} (λ w. A.Goto w) (sym v));
          symbols = λ y z. absurd (let x : ◌≡◌ {A = ℕ} 0 1 = cc in omega arith);
          targets = λ t z. subst (λ w. w ≤ n) (let x : number_of 2 (drop 1 body) ≡ t = cc in x) m;
          kinds = λ y z. absurd (z c);
        }
    held x g (says-assume e k h p) =
        let c : get_or s (at + 2) 0 ≡ 2 = sym kind ∙ k in
        test Assume e (omega arith, omega arith) (rw (ne_eqb (get_or s (at + 2) 0) 3 (λ z. omega arith))) h p g
    held x g (says-assert e k h p) =
        let c : get_or s (at + 2) 0 ≡ 3 = sym kind ∙ k in
        test Assert e (omega arith, omega arith) (rw (eq-eqb (get_or s (at + 2) 0) 3 c)) h p g

  pub held_at : is_good (record_of (instr T n) (drop at s)) ≡ true → Held T n s at
  held_at h = go (record_of (instr T n) (drop at s)) refl h
    where
      go : (b : Body Instr) → record_of (instr T n) (drop at s) ≡ b → is_good b ≡ true → Held T n s at
      go (Good x) g h =
          held x g x g (says T n (take (frame (drop at s)) (drop 2 (drop at s))) (body_some (instr T n) s at x g) x
          (read-body (instr T n) s at x g))
      go (Bad r) g h = absurd (let z : ◌≡◌ {A = ℕ} 0 1 = cc in omega arith)
