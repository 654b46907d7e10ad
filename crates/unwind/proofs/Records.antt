-- The records as the code writes them, part by part, are those of their statements; a record's length is written when its end is known.
use Prim.Native.Nat.{ℕ, ◌+◌, ◌-◌}
use native.Mathlib.Omega.{arith}
use mathlib.Core.Path.{◌≡◌, refl, ap, ◌∙◌}
use mathlib.Core.List.{List, [], ◌∷◌, ◌++◌, append_assoc, map-append}
use lib.ListN.{length}
use Rattle.expr.specs.declared.File.TheVariants.{Trace}
use Rattle.expr.specs.Number.{bytes_of}
use Rattle.expr.specs.declared.word.Unary.TheVariants.{Zero}
use Rattle.expr.specs.declared.word.Binary.TheVariants.{Ule}
use Rattle.expr.specs.declared.token.Token.{Token}
use Rattle.expr.specs.declared.token.Token.TheVariants.{Const, Symbol, Un, Bin, Ite}
use Rattle.expr.specs.Token.{token_bytes, expr_bytes}
use Rattle.expr.specs.TokenLaws.{bytes-append}
use Rattle.expr.specs.Eval.{rename_token, rename}
use Rattle.file.specs.Outcome.{Kind, Bound}
use Rattle.file.specs.File.{record_bytes}
use Rattle.trace.specs.Trace.{Stmt, Assign, Test, kind_code, stmt_bytes}
use Rattle.write.specs.Splice.{splice, Wrote}
use Rattle.write.specs.SpliceLaws.{behind}
use Rattle.unwind.specs.Unwind.{guarded}

pub closes : (x : Stmt) {o p q body : List ℕ} {at end r : ℕ} → Wrote o (at + 2) body p end → stmt_bytes x ≡ body
    → (r ≡ end) × (q ≡ splice at (bytes_of 2 (end - (at + 2))) p) → Wrote o at (record_bytes stmt_bytes x) q r
closes x {p = p} {at = at} {end = end} w e (k, h) =
    let l : end - (at + 2) ≡ length (stmt_bytes x) = omega (arith, w.next, ap length e) in
    behind at (bytes_of 2 (length (stmt_bytes x))) refl (rw (← e) at w) (h ∙ ap (λ n. splice at (bytes_of 2 n) p) l) k

pub guarded-bytes : (w j : ℕ) (body : List Token) (old : Token)
    → expr_bytes Trace (guarded w j body old) ≡ expr_bytes Trace (Symbol w ∷ Const j ∷ Bin Ule ∷ [])
    ++ (expr_bytes Trace body ++ expr_bytes Trace (old ∷ Ite ∷ []))
guarded-bytes w j body old = bytes-append Trace (Symbol w ∷ Const j ∷ Bin Ule ∷ body) (old ∷ Ite ∷ [])

-- ---- records by their parts

module _ (w j : ℕ) (e : List Token) where
  -- W, constant j, ule
  abbrev guard : List ℕ
  guard = expr_bytes Trace (Symbol w ∷ Const j ∷ Bin Ule ∷ [])

  pub assign-bytes : (x : ℕ) (old : Token)
      → stmt_bytes (Assign j x (guarded w j e old)) ≡ (1 ∷ bytes_of 2 j ++ bytes_of 2 x)
      ++ (guard ++ (expr_bytes Trace e ++ expr_bytes Trace (old ∷ Ite ∷ [])))
  assign-bytes x old = ap (λ bs. (1 ∷ bytes_of 2 j ++ bytes_of 2 x) ++ bs) (guarded-bytes w j e old)

  pub jump-bytes : (x goal : ℕ) → stmt_bytes (Assign j x (guarded w j (e ++ Const goal ∷ Symbol w ∷ Ite ∷ []) (Symbol w)))
      ≡ (1 ∷ bytes_of 2 j ++ bytes_of 2 x) ++ (guard
      ++ (expr_bytes Trace e ++ (token_bytes Trace (Const goal)
      ++ (expr_bytes Trace (Symbol w ∷ Ite ∷ []) ++ expr_bytes Trace (Symbol w ∷ Ite ∷ [])))))
  jump-bytes x goal =
      ap (λ bs. (1 ∷ bytes_of 2 j ++ bytes_of 2 x) ++ bs)
      (guarded-bytes w j (e ++ Const goal ∷ Symbol w ∷ Ite ∷ []) (Symbol w)
      ∙ ap (λ bs. guard ++ (bs ++ expr_bytes Trace (Symbol w ∷ Ite ∷ []))) (bytes-append Trace e (Const goal ∷ Symbol w ∷ Ite ∷ []))
      ∙ ap (λ bs. guard ++ bs) (append_assoc (expr_bytes Trace e) (expr_bytes Trace (Const goal ∷ Symbol w ∷ Ite ∷ []))
      (expr_bytes Trace (Symbol w ∷ Ite ∷ []))))

  pub test-bytes : (kind : Kind) → stmt_bytes (Test kind j (guarded w j e (Const 1))) ≡ (kind_code kind ∷ bytes_of 2 j)
      ++ (guard ++ (expr_bytes Trace e ++ expr_bytes Trace (Const 1 ∷ Ite ∷ [])))
  test-bytes kind = ap (λ bs. (kind_code kind ∷ bytes_of 2 j) ++ bs) (guarded-bytes w j e (Const 1))

  pub bound-bytes : (f : ℕ → ℕ) → stmt_bytes (Test Bound j (guarded w j (rename f (e ++ Un Zero ∷ [])) (Const 1)))
      ≡ (4 ∷ bytes_of 2 j) ++ (guard ++ (expr_bytes Trace (rename f e) ++ ((0x12 ∷ []) ++ expr_bytes Trace (Const 1 ∷ Ite ∷ []))))
  bound-bytes f =
      ap (λ bs. (4 ∷ bytes_of 2 j) ++ bs)
      (guarded-bytes w j (rename f (e ++ Un Zero ∷ [])) (Const 1)
      ∙ ap (λ ts. guard ++ (expr_bytes Trace ts ++ expr_bytes Trace (Const 1 ∷ Ite ∷ []))) (map-append (rename_token f) e (Un Zero ∷ []))
      ∙ ap (λ bs. guard ++ (bs ++ expr_bytes Trace (Const 1 ∷ Ite ∷ []))) (bytes-append Trace (rename f e) (Un Zero ∷ []))
      ∙ ap (λ bs. guard ++ bs) (append_assoc (expr_bytes Trace (rename f e)) (0x12 ∷ []) (expr_bytes Trace (Const 1 ∷ Ite ∷ []))))
