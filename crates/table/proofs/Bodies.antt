-- What is wrong with a record's bytes, by the code's tests.
use Prim.Native.Nat.{ℕ, ◌-◌, ◌≤◌, ◌<◌}
use native.Mathlib.Omega.{arith}
use mathlib.Core.Path.{◌≡◌, ap, ◌∙◌}
use mathlib.Core.List.{List}
use lib.ListN.{length, drop, get_or, length-drop}
use Rattle.std.proofs.Math.Decide.{dec_lt}
use lib.Seq.{drop-drop}
use borrow.Author.Tests.{lt-ltb, le-ltb, le-leb, lt-leb}
use Rattle.expr.specs.declared.File.TheVariants.{Table}
use Rattle.expr.specs.Number.{number_of}
use Rattle.expr.specs.Expr.{below, parse}
use Rattle.file.specs.Outcome.{Assume, Assert}
use Rattle.file.specs.File.{AtRecord, rule, holding}
use Rattle.file.specs.Shown.{Fault, fault_at, fault_of, expr_fault}
use Rattle.file.proofs.FileLaws.{field_there, field_missing, fault_holding}
use Rattle.table.specs.Table.{Assign, Test, IfThenGoto, assign, if_then_goto, instr}
use Rattle.table.specs.TableLaws.{kind-assign, kind-assume, kind-assert, kind_goto, kind-unknown}

module _ (S n : ℕ) (body : List ℕ) (h : 0 < length body) where
  abbrev rest : List ℕ
  rest = drop 1 body

  -- what is wrong with it
  abbrev wrong : Fault
  wrong = fault_of (length body) (instr S n body)

  left : length rest ≡ length body - 1
  left = length-drop 1 body

  pub assign-short : get_or body 0 0 ≡ 1 → length body < 2 → wrong ≡ fault_at (length body) (AtRecord 5)
  assign-short e l = ap (fault_of (length body)) (kind-assign S n body h e ∙ field_missing 1 rest (assign S) (omega (arith, left)))

  assigned : get_or body 0 0 ≡ 1 → 2 ≤ length body → instr S n body ≡ assign S (number_of 1 rest) (drop 2 body)
  assigned e l =
      kind-assign S n body h e ∙ field_there 1 rest (assign S) (omega (arith, left)) ∙ ap (assign S (number_of 1 rest)) (drop-drop 1 1 body)

  pub assign-rule : get_or body 0 0 ≡ 1 → 2 ≤ length body → S ≤ number_of 1 rest → wrong ≡ fault_at (length body) (AtRecord 6)
  assign-rule e l r = ap (fault_of (length body)) (assigned e l) ∙ rw (le-ltb (number_of 1 rest) S r)

  pub assign-expr : get_or body 0 0 ≡ 1 → 2 ≤ length body → number_of 1 rest < S
      → wrong ≡ expr_fault (length body) (parse Table (below S) (drop 2 body))
  assign-expr e l r =
      ap (fault_of (length body)) (assigned e l ∙ ap (λ b. rule b
      (holding (Assign (number_of 1 rest)) (parse Table (below S) (drop 2 body))))
      (lt-ltb (number_of 1 rest) S r))
      ∙ fault_holding (length body) (Assign (number_of 1 rest)) (parse Table (below S) (drop 2 body))

  pub goto_short : get_or body 0 0 ≡ 4 → length body < 3 → wrong ≡ fault_at (length body) (AtRecord 5)
  goto_short e l = ap (fault_of (length body)) (kind_goto S n body h e ∙ field_missing 2 rest (if_then_goto S n) (omega (arith, left)))

  targeted : get_or body 0 0 ≡ 4 → 3 ≤ length body → instr S n body ≡ if_then_goto S n (number_of 2 rest) (drop 3 body)
  targeted e l =
      kind_goto S n body h e ∙ field_there 2 rest (if_then_goto S n) (omega (arith, left))
      ∙ ap (if_then_goto S n (number_of 2 rest)) (drop-drop 2 1 body)

  pub goto_rule : get_or body 0 0 ≡ 4 → 3 ≤ length body → n < number_of 2 rest → wrong ≡ fault_at (length body) (AtRecord 6)
  goto_rule e l r = ap (fault_of (length body)) (targeted e l) ∙ rw (lt-leb (number_of 2 rest) n r)

  pub goto_expr : get_or body 0 0 ≡ 4 → 3 ≤ length body → number_of 2 rest ≤ n
      → wrong ≡ expr_fault (length body) (parse Table (below S) (drop 3 body))
  goto_expr e l r =
      ap (fault_of (length body)) (targeted e l
      ∙ ap (λ b. rule b (holding (IfThenGoto (number_of 2 rest)) (parse Table (below S) (drop 3 body))))
      (le-leb (number_of 2 rest) n r))
      ∙ fault_holding (length body) (IfThenGoto (number_of 2 rest)) (parse Table (below S) (drop 3 body))

  assume-expr : get_or body 0 0 ≡ 2 → wrong ≡ expr_fault (length body) (parse Table (below S) (drop 1 body))
  assume-expr e =
      ap (fault_of (length body)) (kind-assume S n body h e) ∙ fault_holding (length body) (Test Assume) (parse Table (below S) rest)

  assert-expr : get_or body 0 0 ≡ 3 → wrong ≡ expr_fault (length body) (parse Table (below S) (drop 1 body))
  assert-expr e =
      ap (fault_of (length body)) (kind-assert S n body h e) ∙ fault_holding (length body) (Test Assert) (parse Table (below S) rest)

  pub test-expr : 2 ≤ get_or body 0 0 → get_or body 0 0 ≤ 3 → wrong ≡ expr_fault (length body) (parse Table (below S) (drop 1 body))
  test-expr a b =
      elim (dec_lt (get_or body 0 0) 3) [ yes l ↦ assume-expr (omega arith) | no l ↦ assert-expr (omega arith) ]

  pub unknown : (get_or body 0 0 ≡ 1 → ⊥) → (get_or body 0 0 ≡ 2 → ⊥) → (get_or body 0 0 ≡ 3 → ⊥) → (get_or body 0 0 ≡ 4 → ⊥)
      → wrong ≡ fault_at (length body) (AtRecord 5)
  unknown a b c d = ap (fault_of (length body)) (kind-unknown S n body h a b c d)
