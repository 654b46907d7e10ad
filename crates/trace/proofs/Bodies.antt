-- What is wrong with a record's bytes, by the code's tests.
use Prim.Native.Nat.{ℕ, ◌-◌, ◌≤◌, ◌<◌}
use native.Mathlib.Omega.{arith}
use native.Mathlib.Decide.{dec_lt}
use mathlib.Core.Path.{◌≡◌, refl, ap, ap₂, ◌∙◌}
use mathlib.Core.Bool.{Bool, true, false, ◌&&◌}
use mathlib.Core.List.{List}
use lib.ListN.{length, drop, get_or, length-drop}
use lib.Seq.{drop-drop}
use lib.Dec.{leb, ltb}
use borrow.Author.Tests.{eq-eqb, ne_eqb, lt-ltb, le-ltb, le-leb, lt-leb}
use Rattle.expr.specs.declared.File.TheVariants.{Trace}
use Rattle.expr.specs.Number.{number_of}
use Rattle.expr.specs.Expr.{parse}
use Rattle.file.specs.Outcome.{Kind}
use Rattle.file.specs.File.{AtRecord, field, rule, holding}
use Rattle.file.specs.Shown.{Fault, fault_at, fault_of, expr_fault}
use Rattle.file.proofs.FileLaws.{field_there, field_missing, fault_holding}
use Rattle.trace.specs.Trace.{Assign, Test, Seen, assign, assign_at, test_at, stmt}
use Rattle.trace.specs.TraceLaws.{kind-assign, kind-test, kind-unknown, known-kind}
use Rattle.trace.specs.Shown.{known_test}

-- a code that is no test's
pub four_untold : (b : Bool) (k : ℕ) → k ≡ 4 → b ≡ false → known_test b k ≡ false
four_untold b k e f = rw (eq-eqb k 4 e) f

pub no_test : (b : Bool) (k : ℕ) → (k ≡ 2 → ⊥) → (k ≡ 3 → ⊥) → (k ≡ 4 → ⊥) → known_test b k ≡ false
no_test b k two three four = rw (ne_eqb k 4 four, ne_eqb k 2 two, ne_eqb k 3 three)

module _ (top : ℕ) (σ : Seen) (body : List ℕ) (h : 0 < length body) where
  abbrev rest : List ℕ
  rest = drop 1 body

  abbrev place : ℕ
  place = number_of 2 (drop 1 body)

  abbrev symbol : ℕ
  symbol = number_of 2 (drop 3 body)

  -- what is wrong with it
  abbrev wrong : Fault
  wrong = fault_of (length body) (stmt top σ body)

  left : length (drop 1 body) ≡ length body - 1
  left = length-drop 1 body

  placed : 3 ≤ length body → get_or body 0 0 ≡ 1 → stmt top σ body ≡ assign_at top σ place (drop 3 body)
  placed l e =
      kind-assign top σ body h e ∙ field_there 2 rest (assign_at top σ) (omega (arith, left))
      ∙ ap (assign_at top σ place) (drop-drop 2 1 body)

  pub assign-short : get_or body 0 0 ≡ 1 → length body < 5 → wrong ≡ fault_at (length body) (AtRecord 5)
  assign-short e l = elim (dec_lt (length body) 3) [ yes k ↦ first k | no k ↦ second (omega arith) ]
    where
      first : length body < 3 → wrong ≡ fault_at (length body) (AtRecord 5)
      first k = ap (fault_of (length body)) (kind-assign top σ body h e ∙ field_missing 2 rest (assign_at top σ) (omega (arith, left)))

      second : 3 ≤ length body → wrong ≡ fault_at (length body) (AtRecord 5)
      second k =
          ap (fault_of (length body)) (placed k e ∙ field_missing 2 (drop 3 body) (assign top σ place) (omega (arith, length-drop 3 body)))

  named : 5 ≤ length body → get_or body 0 0 ≡ 1 → stmt top σ body ≡ assign top σ place symbol (drop 5 body)
  named l e =
      placed (omega arith) e
      ∙ field_there 2 (drop 3 body) (assign top σ place) (omega (arith, length-drop 3 body))
      ∙ ap (assign top σ place symbol) (drop-drop 2 3 body)

  ruled : (a b : Bool) → leb σ.least symbol ≡ a → ltb symbol top ≡ b → 5 ≤ length body → get_or body 0 0 ≡ 1
      → stmt top σ body ≡ rule (a && b) (holding (Assign place symbol) (parse Trace σ.readable (drop 5 body)))
  ruled a b p q l e = named l e ∙ ap₂ (λ a b. rule (a && b) (holding (Assign place symbol) (parse Trace σ.readable (drop 5 body)))) p q

  pub assign-low : get_or body 0 0 ≡ 1 → 5 ≤ length body → symbol < σ.least → wrong ≡ fault_at (length body) (AtRecord 6)
  assign-low e l k = ap (fault_of (length body)) (ruled false (ltb symbol top) (lt-leb σ.least symbol k) refl l e)

  pub assign_high : get_or body 0 0 ≡ 1 → 5 ≤ length body → σ.least ≤ symbol → top ≤ symbol → wrong ≡ fault_at (length body) (AtRecord 6)
  assign_high e l k m = ap (fault_of (length body)) (ruled true false (le-leb σ.least symbol k) (le-ltb symbol top m) l e)

  pub assign-expr : get_or body 0 0 ≡ 1 → 5 ≤ length body → σ.least ≤ symbol → symbol < top
      → wrong ≡ expr_fault (length body) (parse Trace σ.readable (drop 5 body))
  assign-expr e l k m =
      ap (fault_of (length body)) (ruled true true (le-leb σ.least symbol k) (lt-ltb symbol top m) l e)
      ∙ fault_holding (length body) (Assign place symbol) (parse Trace σ.readable (drop 5 body))

  -- a test of a known kind
  module _ (known : known_test σ.bounds (get_or body 0 0) ≡ true) where
    abbrev k : Kind
    k = (known-kind σ (get_or body 0 0) known).0

    is : stmt top σ body ≡ field 2 (drop 1 body) (test_at σ k)
    is = let q = known-kind σ (get_or body 0 0) known in kind-test top σ body h q.0 q.1 q.2

    pub test_short : length body < 3 → wrong ≡ fault_at (length body) (AtRecord 5)
    test_short l = ap (fault_of (length body)) (is ∙ field_missing 2 rest (test_at σ k) (omega (arith, left)))

    pub test-expr : 3 ≤ length body → wrong ≡ expr_fault (length body) (parse Trace σ.readable (drop 3 body))
    test-expr l =
        ap (fault_of (length body)) (is ∙ field_there 2 rest (test_at σ k) (omega (arith, left))
        ∙ ap (test_at σ k place) (drop-drop 2 1 body))
        ∙ fault_holding (length body) (Test k place) (parse Trace σ.readable (drop 3 body))

  pub unknown : (get_or body 0 0 ≡ 1 → ⊥) → known_test σ.bounds (get_or body 0 0) ≡ false → wrong ≡ fault_at (length body) (AtRecord 5)
  unknown a b = ap (fault_of (length body)) (kind-unknown top σ body h a b)
