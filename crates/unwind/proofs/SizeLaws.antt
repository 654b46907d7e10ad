-- The unwound trace has the bytes that `Size` says. Names of symbols do not matter, as all have two bytes; so a record's size is that of
-- its instruction, and a copy's that of the table: one size for the copies before the last, one for the last.
use Rattle.std.specs.Prelude.{ℕ, zero, suc, ◌+◌, ◌*◌, ◌≡◌, refl, Bool, true, false, cond, not, ◌&&◌, List, [], ◌∷◌, ◌++◌, length, leb, ltb}
use Rattle.std.proofs.Common.{arith, ap, ◌∙◌, length-append, le-ltb, lt-ltb}
use Rattle.expr.specs.declared.File.TheVariants.{Trace}
use Rattle.expr.specs.declared.word.Unary.TheVariants.{Zero}
use Rattle.expr.specs.declared.token.Token.{Token}
use Rattle.expr.specs.declared.token.Token.TheVariants.{Const, Symbol, Un, Bin, Ite}
use Rattle.expr.specs.Token.{operands, token_bytes, expr_bytes}
use Rattle.expr.specs.TokenLaws.{bytes-append}
use Rattle.expr.specs.Eval.{rename}
use Rattle.file.specs.Outcome.{Kind, Bound}
use Rattle.file.specs.File.{record_bytes, records_bytes}
use Rattle.file.proofs.EncodeLaws.{records-append, encode-length}
use Rattle.table.specs.Table.{Instr, Assign, Test, IfThenGoto}
use Rattle.table.specs.Run.{place_in}
use Rattle.trace.specs.Trace.{stmt_bytes, trace_head, encode_trace}
use Rattle.unwind.specs.Places.{Check, Jump, Exit, Place, At, action_in, copy_from, copies_from, places}
use Rattle.unwind.specs.Unwind.{Newest, guarded, statement, advance, statements, at_first, unwind}
use Rattle.unwind.specs.Unwind.{after}
use Rattle.unwind.proofs.UnwindLaws.{statements-append}
use Rattle.unwind.specs.Size.{expr_size, instr_size, copy_size, trace_size}

-- ---- expressions

size-append : (a b : List Token) → expr_size (a ++ b) ≡ expr_size a + expr_size b
size-append a b = ap length (bytes-append Trace a b) ∙ length-append (expr_bytes Trace a) (expr_bytes Trace b)

pub size-rename : (f : ℕ → ℕ) (e : List Token) → length (expr_bytes Trace (rename f e)) ≡ expr_size e
size-rename f [] = refl
size-rename f (Const n ∷ e) = omega (arith, size-rename f e)
size-rename f (Symbol s ∷ e) = omega (arith, size-rename f e)
size-rename f (Un o ∷ e) = omega (arith, size-rename f e)
size-rename f (Bin o ∷ e) = omega (arith, size-rename f e)
size-rename f (Ite ∷ e) = omega (arith, size-rename f e)

guarded-size : (W j : ℕ) (body : List Token) (old : Token) → expr_size (guarded W j body old) ≡ 10 + expr_size body + length
    (token_bytes Trace old)
guarded-size W j body old =
    omega (arith, size-append body (old ∷ Ite ∷ []), length-append (operands Trace old) (expr_bytes Trace (Ite ∷ [])))

-- ---- records

module _ (cut : Kind) (c : Newest) (j : ℕ) where
  check_size : (k : Kind) (e : List Token) → length (record_bytes stmt_bytes (statement cut c (At j (Check k e)))) ≡ 20 + expr_size e
  check_size k e = omega (arith, guarded-size c.control j (rename c.current e) (Const 1), size-rename c.current e)

  jump-size : (g : ℕ) (e : List Token) → length (record_bytes stmt_bytes (statement cut c (At j (Jump g e)))) ≡ 29 + expr_size e
  jump-size g e =
      omega (
        arith,
        guarded-size c.control j (rename c.current e ++ Const g ∷ Symbol c.control ∷ Ite ∷ []) (Symbol c.control),
        size-append (rename c.current e) (Const g ∷ Symbol c.control ∷ Ite ∷ []),
        size-rename c.current e,
      )

  pub exit_size : (g : ℕ) → length (record_bytes stmt_bytes (statement cut c (At j (Exit g)))) ≡ 25
  exit_size g = refl

  -- instruction i of copy r, the last one or not
  pub statement-size : (n K r i : ℕ) (last : Bool) (x : Instr) → ltb r K ≡ not last
      → length (record_bytes stmt_bytes (statement cut c (At j (action_in n K r i x)))) ≡ instr_size last i x
  statement-size n K r i last (Assign s e) h =
      omega (arith, guarded-size c.control j (rename c.current e) (Symbol (c.current s)), size-rename c.current e)
  statement-size n K r i last (Test k e) h = check_size k e
  statement-size n K r i last (IfThenGoto t e) h = ap (λ more. length (record_of (leb t i) more)) h ∙ go (leb t i) last
    where
      record_of : (back more : Bool) → List ℕ
      record_of back more =
          record_bytes stmt_bytes (statement cut c
          (At j (cond back (cond more (Jump (place_in n (suc r) t) e) (Check Bound (e ++ Un Zero ∷ []))) (Jump (place_in n r t) e))))

      go : (back last : Bool) → length (record_of back (not last)) ≡ cond (last && back) 21 29 + expr_size e
      go false false = jump-size (place_in n r t) e
      go false true = jump-size (place_in n r t) e
      go true false = jump-size (place_in n (suc r) t) e
      go true true = omega (arith, check_size Bound (e ++ Un Zero ∷ []), size-append e (Un Zero ∷ []))

-- ---- copies

module _ (cut : Kind) where
  pub copy-size : (c : Newest) (n K r i : ℕ) (last : Bool) (xs : List Instr) → ltb r K ≡ not last
      → length (records_bytes stmt_bytes (statements cut c (copy_from n K r i xs))) ≡ copy_size last i xs
  copy-size c n K r i last [] h = refl
  copy-size c n K r i last (x ∷ xs) h =
      let p = At (place_in n r i) (action_in n K r i x) in
      length-append (record_bytes stmt_bytes (statement cut c p))
      (records_bytes stmt_bytes (statements cut (advance c p) (copy_from n K r (suc i) xs)))
      ∙ (omega (arith, statement-size cut c (place_in n r i) n K r i last x h, copy-size (advance c p) n K r (suc i) last xs h))

  -- a copy and the places after it
  copy_then : (c : Newest) (n K r : ℕ) (last : Bool) (xs : List Instr) (ps : List Place) → ltb r K ≡ not last
      → length (records_bytes stmt_bytes (statements cut c (copy_from n K r 0 xs ++ ps)))
      ≡ copy_size last 0 xs + length (records_bytes stmt_bytes (statements cut (after c (copy_from n K r 0 xs)) ps))
  copy_then c n K r last xs ps h =
      let qs = copy_from n K r 0 xs in
      let front = statements cut c qs in
      let rest = statements cut (after c qs) ps in
      ap (λ ts. length (records_bytes stmt_bytes ts)) (statements-append cut c qs ps)
      ∙ ap length (records-append stmt_bytes front rest)
      ∙ length-append (records_bytes stmt_bytes front) (records_bytes stmt_bytes rest)
      ∙ ap (λ k. k + length (records_bytes stmt_bytes rest)) (copy-size c n K r 0 last xs h)

  -- m copies and the last one, which is copy K
  pub copies-size : (c : Newest) (is : List Instr) (K m r : ℕ) → r + m ≡ K
      → length (records_bytes stmt_bytes (statements cut c (copies_from is K (suc m) r))) ≡ m * copy_size false 0 is + copy_size true 0 is
  copies-size c is K zero r h = copy_then c (length is) K r true is [] (le-ltb r K (omega arith)) ∙ (omega arith)
  copies-size c is K (suc m) r h =
      copy_then c (length is) K r false is (copies_from is K (suc m) (suc r)) (lt-ltb r K (omega arith))
      ∙ (omega (arith, copies-size (after c (copy_from (length is) K r 0 is)) is K m (suc r) (omega arith)))

  -- whatever kind the bound's tests have
  pub records-size : (S : ℕ) (is : List Instr) (K : ℕ)
      → length (records_bytes stmt_bytes (unwind cut S is K)) ≡ 12 + (K * copy_size false 0 is + copy_size true 0 is)
  unfolding unwind places
  records-size S is K = omega (arith, copies-size (at_first S) is K K 0 (omega arith))

  pub unwind-size : (S : ℕ) (is : List Instr) (K : ℕ) → length (encode_trace (trace_head S) (unwind cut S is K)) ≡ trace_size is K
  unwind-size S is K =
      let l = encode-length stmt_bytes (trace_head S) (unwind cut S is K) in
      omega (arith, l, records-size S is K)
