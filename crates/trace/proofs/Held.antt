-- The statement that a record holds, read at an offset of the trace: where its expression stands, its place, and its symbol or kind.
use Prim.Native.Nat.{ℕ, ◌+◌, ◌≤◌, ◌<◌}
use native.Mathlib.Omega.{arith}
use mathlib.Core.Path.{◌≡◌, refl, sym, ap, ap₂, ◌∙◌, subst}
use mathlib.Core.Bool.{Bool, true, false, cond}
use mathlib.Core.List.{List}
use lib.ListN.{length, take, drop, get_or}
use lib.Dec.{eqb}
use borrow.Author.Tests.{eq-eqb, ne_eqb, eqb-true, eqb-false}
use Rattle.expr.specs.declared.File.TheVariants.{Trace}
use Rattle.expr.specs.Number.{number_of}
use Rattle.expr.specs.declared.token.Token.{Token}
use Rattle.expr.specs.Expr.{Whole, parse}
use Rattle.file.specs.Outcome.{Kind, Assume, Assert, Bound}
use Rattle.file.specs.File.{Body, Good, Bad, frame, record_of}
use Rattle.file.specs.Shown.{is_good, rest_of}
use Rattle.file.proofs.RecordLaws.{read-body, body-length, body_some, body-inside, body-part, body-kind, body-number}
use Rattle.trace.specs.Trace.{Stmt, Assign, Test, Seen, stmt, kind_code}
use Rattle.trace.specs.TraceLaws.{no_assign, Says, says-assign, says-test, says}
use Rattle.trace.specs.Shown.{test_kind, expr_start, expr_part, action_at, expr_of}
use Rattle.trace.specs.declared.read.Action.TheVariants as A

pub record Held (top : ℕ) (σ : Seen) (s : List ℕ) (at : ℕ) : Type 0 where
  pub statement : Stmt
  pub is : record_of (stmt top σ) (drop at s) ≡ Good statement
  pub whole : at + (2 + number_of 2 (drop at s)) ≤ length s
  pub kind-there : at + 2 < length s
  pub starts : expr_start (get_or s (at + 2) 0) ≤ 2 + number_of 2 (drop at s)
  pub parsed : parse Trace σ.readable (expr_part s at) ≡ Whole (expr_of statement)
  pub assigns : get_or s (at + 2) 0 ≡ 1
      → (statement ≡ Assign (number_of 2 (drop (at + 3) s)) (number_of 2 (drop (at + 5) s)) (expr_of statement))
      × (number_of 2 (drop (at + 5) s) < top) × (at + 7 ≤ length s)
  pub tests : (get_or s (at + 2) 0 ≡ 1 → ⊥) → (statement ≡ Test (test_kind (get_or s (at + 2) 0)) (number_of 2 (drop (at + 3) s))
      (expr_of statement)) × (at + 5 ≤ length s)

-- the statement, by what the code reads of it
module _ {top : ℕ} {σ : Seen} {s : List ℕ} {at : ℕ} (h : Held top σ s at) where
  abbrev code : ℕ
  code = get_or s (at + 2) 0

  abbrev place : ℕ
  place = number_of 2 (drop (at + 3) s)

  abbrev symbol : ℕ
  symbol = number_of 2 (drop (at + 5) s)

  pub acts-assign : (y : ℕ) → action_at s at ≡ A.Assign y → (h.statement ≡ Assign place y (expr_of h.statement)) × (y < top)
  acts-assign y q = go (eqb code 1) refl q
    where
      go : (b : Bool) → eqb code 1 ≡ b → cond b (A.Assign symbol) (A.Test (test_kind code)) ≡ A.Assign y
          → (h.statement ≡ Assign place y (expr_of h.statement)) × (y < top)
      go true e q =
          let a = h.assigns (eqb-true code 1 e) in
          let z : symbol ≡ y = cc in
          (a.0 ∙ ap {B = Stmt} (λ y. Assign place y (expr_of h.statement)) z, subst (λ y. y < top) z a.1)
      go false e q = absurd (let z : ◌≡◌ {A = ℕ} 0 1 = cc in omega arith)

  pub acts-test : (k : Kind) → action_at s at ≡ A.Test k → h.statement ≡ Test k place (expr_of h.statement)
  acts-test k q = go (eqb code 1) refl q
    where
      go : (b : Bool) → eqb code 1 ≡ b → cond b (A.Assign symbol) (A.Test (test_kind code)) ≡ A.Test k
          → h.statement ≡ Test k place (expr_of h.statement)
      go true e q = absurd (let z : ◌≡◌ {A = ℕ} 0 1 = cc in omega arith)
      go false e q =
          let z : test_kind code ≡ k = cc in
          (h.tests (eqb-false code 1 e)).0 ∙ ap {B = Stmt} (λ k. Test k place (expr_of h.statement)) z

-- the record's kind, by what the statement does
pub acts-code : (s : List ℕ) (at y : ℕ) → action_at s at ≡ A.Assign y → (get_or s (at + 2) 0 ≡ 1) × (y ≡ number_of 2 (drop (at + 5) s))
acts-code s at y q = go (eqb (get_or s (at + 2) 0) 1) refl q
  where
    go : (b : Bool) → eqb (get_or s (at + 2) 0) 1 ≡ b
        → cond b (A.Assign (number_of 2 (drop (at + 5) s))) (A.Test (test_kind (get_or s (at + 2) 0))) ≡ A.Assign y
        → (get_or s (at + 2) 0 ≡ 1) × (y ≡ number_of 2 (drop (at + 5) s))
    go true e q = (eqb-true (get_or s (at + 2) 0) 1 e, let z : y ≡ number_of 2 (drop (at + 5) s) = cc in z)
    go false e q = absurd (let z : ◌≡◌ {A = ℕ} 0 1 = cc in omega arith)

pub tests-code : (s : List ℕ) (at : ℕ) (k : Kind) → action_at s at ≡ A.Test k
    → (get_or s (at + 2) 0 ≡ 1 → ⊥) × (k ≡ test_kind (get_or s (at + 2) 0))
tests-code s at k q = go (eqb (get_or s (at + 2) 0) 1) refl q
  where
    go : (b : Bool) → eqb (get_or s (at + 2) 0) 1 ≡ b
        → cond b (A.Assign (number_of 2 (drop (at + 5) s))) (A.Test (test_kind (get_or s (at + 2) 0))) ≡ A.Test k
        → (get_or s (at + 2) 0 ≡ 1 → ⊥) × (k ≡ test_kind (get_or s (at + 2) 0))
    go true e q = absurd (let z : ◌≡◌ {A = ℕ} 0 1 = cc in omega arith)
    go false e q = (eqb-false (get_or s (at + 2) 0) 1 e, let z : k ≡ test_kind (get_or s (at + 2) 0) = cc in z)

code-kind : (k : Kind) → test_kind (kind_code k) ≡ k
code-kind Assume = refl
code-kind Assert = refl
code-kind Bound = refl

module _ (top : ℕ) (σ : Seen) (s : List ℕ) (at : ℕ) where
  module _ (x : Stmt) (g : record_of (stmt top σ) (drop at s) ≡ Good x) where
    abbrev body : List ℕ
    body = take (frame (drop at s)) (drop 2 (drop at s))

    long : length body ≡ number_of 2 (drop at s)
    long = body-length (stmt top σ) s at x g

    inside : at + (2 + number_of 2 (drop at s)) ≤ length s
    inside = body-inside (stmt top σ) s at x g

    kind : get_or body 0 0 ≡ get_or s (at + 2) 0
    kind = body-kind (stmt top σ) s at x g

    number : (i : ℕ) → i + 2 ≤ length body → number_of 2 (drop i body) ≡ number_of 2 (drop (at + (2 + i)) s)
    number i h = body-number (stmt top σ) s at x g i 2 h

    -- the expression from k on, where the kind's expression begins at 2 + k
    placed : (k : ℕ) → expr_start (get_or s (at + 2) 0) ≡ 2 + k → (e : List Token) → parse Trace σ.readable (drop k body) ≡ Whole e
        → parse Trace σ.readable (expr_part s at) ≡ Whole e
    placed k q e p =
        ap (λ m. parse Trace σ.readable (rest_of s at m)) q ∙ ap (parse Trace σ.readable) (sym (body-part (stmt top σ) s at x g k)) ∙ p

    test : (k : Kind) (e : List Token) → (get_or s (at + 2) 0 ≡ 1 → ⊥) → test_kind (get_or s (at + 2) 0) ≡ k → 3 ≤ length body
        → parse Trace σ.readable (drop 3 body) ≡ Whole e
        → record_of (stmt top σ) (drop at s) ≡ Good (Test k (number_of 2 (drop 1 body)) e) → Held top σ s at
    test k e c d h p g =
        let q : expr_start (get_or s (at + 2) 0) ≡ 5 = rw (ne_eqb (get_or s (at + 2) 0) 1 c) in
        record {
          statement = Test k (number_of 2 (drop 1 body)) e;
          is = g;
          whole = inside;
          kind-there = omega (arith, inside, long);
          starts = omega (arith, long);
          parsed = placed 3 q e p;
          assigns = λ z. absurd (c z);
          tests = λ z. (ap₂ {C = Stmt} (λ k w. Test k w e) (sym d) (number 1 h), omega (arith, long, inside));
        }

    held : (x : Stmt) → record_of (stmt top σ) (drop at s) ≡ Good x → Says top σ body x → Held top σ s at
    held x g (says-assign e k h l m p) =
        let c : get_or s (at + 2) 0 ≡ 1 = sym kind ∙ k in
        let q : expr_start (get_or s (at + 2) 0) ≡ 7 = rw (eq-eqb (get_or s (at + 2) 0) 1 c) in
        let y = number 3 h in
        record {
          statement = Assign (number_of 2 (drop 1 body)) (number_of 2 (drop 3 body)) e;
          is = g;
          whole = inside;
          kind-there = omega (arith, inside, long);
          starts = omega (arith, long);
          parsed = placed 5 q e p;
          assigns =
              λ z. (ap₂ {C = Stmt} (λ w v. Assign w v e) (number 1 (omega arith)) y, subst (λ v. v < top) y m, omega (arith, long, inside));
          tests = λ z. absurd (z c);
        }
    held x g (says-test k e t c h p) =
        let code : get_or s (at + 2) 0 ≡ kind_code k = sym kind ∙ c in
        test k e (λ z. no_assign k (sym code ∙ z)) (ap test_kind code ∙ code-kind k) h p g

  pub held_at : is_good (record_of (stmt top σ) (drop at s)) ≡ true → Held top σ s at
  held_at h = go (record_of (stmt top σ) (drop at s)) refl h
    where
      go : (b : Body Stmt) → record_of (stmt top σ) (drop at s) ≡ b → is_good b ≡ true → Held top σ s at
      go (Good x) g h =
          held x g x g (says top σ (take (frame (drop at s)) (drop 2 (drop at s))) (body_some (stmt top σ) s at x g) x
          (read-body (stmt top σ) s at x g))
      go (Bad r) g h = absurd (let z : ◌≡◌ {A = ℕ} 0 1 = cc in omega arith)
