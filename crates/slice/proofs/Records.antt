-- The record at an offset: whether its statement is kept, what it reads, whether it is an Assert, and its bytes.
use Prim.Native.Nat.{ℕ, ◌+◌, ◌-◌}
use native.Mathlib.Omega.{arith}
use mathlib.Core.Path.{◌≡◌, refl, sym, ap, ap₂, ◌∙◌}
use mathlib.Core.Bool.{Bool, true, false, ◌||◌}
use mathlib.Core.List.{List}
use lib.ListN.{length, take, drop, set, length-append}
use lib.Seq.{take-append_seam}
use Rattle.expr.specs.declared.File.TheVariants.{Trace}
use Rattle.expr.specs.Lists.{All, all_drop, all_take}
use Rattle.expr.specs.Number.{Byte, number_of, bytes_of}
use Rattle.expr.specs.NumberLaws.{bytes_of-length}
use Rattle.expr.specs.Expr.{below, parse}
use Rattle.expr.specs.Eval.{reads}
use Rattle.expr.specs.Shown.{tokens_of}
use Rattle.file.specs.File.{Good, frame, record_bytes}
use Rattle.file.specs.Shown.{rest_of}
use Rattle.file.proofs.RecordLaws.{read-body, body-length}
use Rattle.file.proofs.EncodeLaws.{record_same}
use Rattle.trace.specs.declared.read.Action.{Action}
use Rattle.trace.specs.declared.read.Action.TheVariants as A
use Rattle.trace.specs.Trace.{Stmt, see, stmt, stmt_bytes}
use Rattle.trace.specs.EncodeLaws.{stmt-same}
use Rattle.trace.specs.Shown.{symbol_room, loose, held, expr_part, action_at}
use Rattle.trace.proofs.Held.{Held, acts-assign, acts-test}
use Rattle.trace.proofs.Moves.{expr-whole}
use Rattle.slice.specs.declared.back.Kept.{Kept}
use Rattle.slice.specs.Shown.{reads_in, keep_by, keep_in, asserts_by, asserts_in, Stepped}

module _ {s : List ℕ} {at : ℕ} (h : Held symbol_room loose s at) where
  -- by what the code has of it
  module _ (a : Action) (q : a ≡ action_at s at) where
    pub keeps-as : (asserts : Bool) (needed : ℕ → Bool) → keep_by asserts needed a ≡ keep_in asserts needed (held (drop at s))
    keeps-as asserts needed = go a q
      where
        go : (a : Action) → a ≡ action_at s at → keep_by asserts needed a ≡ keep_in asserts needed (held (drop at s))
        go (A.Assign x) q = sym (ap (keep_in asserts needed) (h.is ∙ ap Good (acts-assign h x (sym q)).0))
        go (A.Test k) q = sym (ap (keep_in asserts needed) (h.is ∙ ap Good (acts-test h k (sym q))))

    pub asserts-as : asserts_by a ≡ asserts_in (held (drop at s))
    asserts-as = go a q
      where
        go : (a : Action) → a ≡ action_at s at → asserts_by a ≡ asserts_in (held (drop at s))
        go (A.Assign x) q = sym (ap asserts_in (h.is ∙ ap Good (acts-assign h x (sym q)).0))
        go (A.Test k) q = sym (ap asserts_in (h.is ∙ ap Good (acts-test h k (sym q))))

  -- ---- what it reads

  pub reads-marked : {e : List ℕ} → e ≡ expr_part s at → (needed needed' : ℕ → Bool)
      → ((x : ℕ) → needed' x ≡ (reads x (tokens_of (parse Trace (below symbol_room) e)) || needed x))
      → (x : ℕ) → needed' x ≡ (reads_in x (held (drop at s)) || needed x)
  reads-marked q needed needed' m x =
      m x
      ∙ ap (λ p. reads x (tokens_of p) || needed x) (expr-whole h symbol_room refl q)
      ∙ sym (ap (λ b. reads_in x b || needed x) h.is)

  -- ---- one step back

  module _ (k : ℕ) (behind : Kept) (kept : List Bool) (needed : ℕ → Bool) (b : Bool)
      (q : b ≡ keep_in behind.asserts needed (held (drop at s))) where
    pub stepped_kept : b ≡ true → (needed' : ℕ → Bool) → ((x : ℕ) → needed' x ≡ (reads_in x (held (drop at s)) || needed x))
        → (a : Bool) → a ≡ (asserts_in (held (drop at s)) || behind.asserts) → (len : ℕ) → len ≡ number_of 2 (drop at s)
        → Stepped (held (drop at s)) (2 + number_of 2 (drop at s)) k behind kept needed (set kept k true) needed'
        (record { asserts = a; count = behind.count + 1; size = behind.size + (2 + len) })
    stepped_kept y needed' m a p len l = record {
      asserts = p;
      keeps = λ z. (refl, refl, ap (λ n. behind.size + (2 + n)) l, m);
      drops = λ z. absurd (let w : ◌≡◌ {A = Bool} true false = sym y ∙ q ∙ z in let u : ◌≡◌ {A = ℕ} 0 1 = cc in omega arith);
    }

-- ---- its bytes

module _ (s : List ℕ) (at : ℕ) (o : All Byte s) (t : Stmt) (g : held (drop at s) ≡ Good t) where
  statement-length : length (stmt_bytes t) ≡ number_of 2 (drop at s)
  statement-length =
      ap length (stmt-same symbol_room loose (take (frame (drop at s)) (drop 2 (drop at s)))
      t (all_take Byte (frame (drop at s)) (drop 2 (drop at s)) (all_drop Byte 2 (drop at s) (all_drop Byte at s o)))
      (read-body (stmt symbol_room loose) s at t g))
      ∙ body-length (stmt symbol_room loose) s at t g

  pub record-length : length (record_bytes stmt_bytes t) ≡ 2 + number_of 2 (drop at s)
  record-length = omega (
    arith,
    length-append (bytes_of 2 (length (stmt_bytes t))) (stmt_bytes t),
    bytes_of-length 2 (length (stmt_bytes t)),
    statement-length,
  )

  pub record-part : {e : List ℕ} → e ≡ rest_of s at 0 → e ≡ record_bytes stmt_bytes t
  record-part q =
      let rest = drop (2 + frame (drop at s)) (drop at s) in
      q
      ∙ ap₂ (λ m a. take m (drop a s)) (let n : 2 + number_of 2 (drop at s) - 0 ≡ length (record_bytes stmt_bytes t) =
      omega (arith, record-length) in n) (let z : at + 0 ≡ at = omega arith in z)
      ∙ ap (take (length (record_bytes stmt_bytes t)))
      (sym (record_same stmt_bytes (stmt symbol_room) see (stmt-same symbol_room) loose (drop at s) t (all_drop Byte at s o) g))
      ∙ take-append_seam (record_bytes stmt_bytes t) rest
