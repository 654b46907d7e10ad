-- A slice is unsafe exactly if its trace is, and at its place, in any environment that agrees on what the slice reads; the slice of an
-- accepted trace is accepted; and slicing a slice changes nothing.
--
-- Why dropping is right. Walk the trace from its last statement back. An Assign is dropped only if its symbol is not needed: no kept
-- statement behind it reads that symbol, so whatever it stores, the kept statements see the same values. An Assume, or a test of the
-- bound, is dropped only if no Assert follows it: then nothing behind it can fail an Assert, and the rest is not unsafe whether the test
-- holds or not. Every Assert is kept, and what a kept statement reads is needed: so in two environments that agree on what the slice
-- reads, a kept statement has one value, and trace and slice go on alike or fail alike. What is left is well formed: a kept statement
-- reads inputs, or symbols whose Assign is kept because it reads them, and the assigned symbols still rise. A slice has an Assert exactly
-- if its trace has one, so each kept statement is kept again, and slicing a slice changes nothing.
use Rattle.std.specs.Prelude.{ℕ, suc, ◌+◌, ◌≤◌, ◌<◌, ◌≡◌, refl, Bool, cond, ◌||◌, ◌↔◌, List, [], ◌∷◌, eqb, leb, length}
use Rattle.std.proofs.Common.{arith, ap, ◌∙◌, subst, length-append, eqb-true, eq-eqb, le-leb}
use Rattle.std.proofs.Math.Path.{sym}
use Rattle.std.proofs.Math.Bool.{true, false}
use Rattle.expr.specs.Lists.{All, or_left, or_right, or_cases}
use Rattle.expr.specs.Number.{Byte}
use Rattle.expr.specs.Word.{truthy}
use Rattle.expr.specs.declared.token.Token.{Token}
use Rattle.expr.specs.declared.token.Token.TheVariants.{Const, Symbol, Un, Bin, Ite}
use Rattle.expr.specs.Expr.{after, reads_only}
use Rattle.expr.proofs.ExprLaws.{fits-is, is-fits}
use Rattle.expr.specs.Expr.{Ok}
use Rattle.expr.specs.Eval.{Env, update, value, reads_token, reads}
use Rattle.expr.proofs.EvalLaws.{value_agree}
use Rattle.file.specs.Outcome.{Kind, Assert, Failed, unsafe, place_of}
use Rattle.file.specs.OutcomeLaws.{unsafe-is}
use Rattle.file.specs.File.{Head, inputs_limit, header_version, Input, Accepted, Refused, record_bytes, records_bytes}
use Rattle.file.proofs.EncodeLaws.{encode-length}
use Rattle.file.proofs.FileLaws.{header_is, file-is}
use Rattle.file.proofs.ReadingLaws.{short}
use Rattle.trace.specs.Trace.{Stmt, Assign, Test, Seen, at_first, see, stmts, is_trace, read_trace, stmt_bytes, encode_trace}
use Rattle.trace.specs.Trace.{reads_trace}
use Rattle.trace.specs.TraceLaws.{Told, trace_refused-low}
use Rattle.trace.specs.WellFormed.{StmtsOk, trace_ok}
use Rattle.trace.specs.EncodeLaws.{encode-read, read-encode}
use Rattle.trace.specs.Judge.{judge}
use Rattle.trace.specs.Asserts.{is_assert, has_assert}
use Rattle.trace.specs.AssertsLaws.{Alike, alike-cond, no_assert-here, no_assert_safe}
use Rattle.slice.specs.Slice.{keep, kept_before, slice}
use Rattle.slice.specs.Answer.{slice_of, refusal, answered, slice_answer}

-- ---- two environments that agree on what a trace reads

abbrev Agree : List Stmt → (σ τ : Env) → Type 0
Agree ts σ τ = (x : ℕ) → reads_trace x ts ≡ true → σ x ≡ τ x

-- an update of one symbol to one value keeps an agreement, and so does one of a symbol that is not read
agree_update : (ts : List Stmt) (σ τ : Env) (x v : ℕ) → Agree ts σ τ → Agree ts (update σ x v) (update τ x v)
agree_update ts σ τ x v h y q = go (eqb y x)
  where
    go : (b : Bool) → cond b v (σ y) ≡ cond b v (τ y)
    go true = refl
    go false = h y q

agree_unread : (ts : List Stmt) (σ τ : Env) (x v : ℕ) → reads_trace x ts ≡ false → Agree ts σ τ → Agree ts (update σ x v) τ
agree_unread ts σ τ x v n h y q = go (eqb y x) refl
  where
    go : (b : Bool) → eqb y x ≡ b → cond b v (σ y) ≡ τ y
    go true e = let z : ◌≡◌ {A = Bool} true false = sym q ∙ ap (λ k. reads_trace k ts) (eqb-true y x e) ∙ n in cc
    go false e = h y q

-- ---- unsafe or not, and place

module _ (ts : List Stmt) (ih : (σ τ : Env) → Agree (slice ts) σ τ → Alike (judge ts σ) (judge (slice ts) τ)) (σ τ : Env) where
  assign_alike : (p x : ℕ) (e : List Token) (b : Bool) → reads_trace x (slice ts) ≡ b
      → Agree (cond b (Assign p x e ∷ slice ts) (slice ts)) σ τ
      → Alike (judge (Assign p x e ∷ ts) σ) (judge (cond b (Assign p x e ∷ slice ts) (slice ts)) τ)
  unfolding judge
  assign_alike p x e true k h =
      rw (value_agree σ τ e (λ y r. h y (or_left _ (reads_trace y (slice ts)) r)))
      (ih (update σ x (value τ e)) (update τ x (value τ e))
      (agree_update (slice ts) σ τ x (value τ e) (λ y r. h y (or_right (reads y e) _ r))))
  assign_alike p x e false k h = ih (update σ x (value σ e)) τ (agree_unread (slice ts) σ τ x (value σ e) k h)

  test-alike : (k : Kind) (p : ℕ) (e : List Token) (b : Bool) → (is_assert k || has_assert ts) ≡ b
      → Agree (cond b (Test k p e ∷ slice ts) (slice ts)) σ τ
      → Alike (judge (Test k p e ∷ ts) σ) (judge (cond b (Test k p e ∷ slice ts) (slice ts)) τ)
  unfolding judge
  test-alike k p e true q h =
      rw (value_agree σ τ e (λ y r. h y (or_left _ (reads_trace y (slice ts)) r)))
      (alike-cond (truthy (value τ e)) (judge ts σ) (judge (slice ts) τ) (Failed k p) (ih σ τ (λ y r. h y (or_right (reads y e) _ r))))
  test-alike k p e false q h =
      let safe = no_assert_safe (Test k p e ∷ ts) σ q in
      let rest = no_assert_safe ts τ (no_assert-here k (has_assert ts) p q).1 in
      let on = ih τ τ (λ y r. refl) in
      (safe.0 ∙ sym rest.0 ∙ on.0, safe.1 ∙ sym rest.1 ∙ on.1)

pub slice-alike : (ts : List Stmt) (σ τ : Env) → ((x : ℕ) → reads_trace x (slice ts) ≡ true → σ x ≡ τ x)
    → Alike (judge ts σ) (judge (slice ts) τ)
unfolding slice judge
slice-alike [] σ τ h = (refl, refl)
slice-alike (Assign p x e ∷ ts) σ τ h = assign_alike ts (slice-alike ts) σ τ p x e (reads_trace x (slice ts)) refl h
slice-alike (Test k p e ∷ ts) σ τ h = test-alike ts (slice-alike ts) σ τ k p e (is_assert k || has_assert ts) refl h

-- a trace is unsafe at a place exactly if its slice is
pub slice-unsafe : (ts : List Stmt) (σ τ : Env) (p : ℕ) → ((x : ℕ) → reads_trace x (slice ts) ≡ true → σ x ≡ τ x)
    → (judge ts σ ≡ Failed Assert p) ↔ (judge (slice ts) τ ≡ Failed Assert p)
slice-unsafe ts σ τ p h =
    let v = slice-alike ts σ τ h in (
      λ q. unsafe-is (judge (slice ts) τ) (sym v.0 ∙ ap unsafe q) ∙ ap (Failed Assert) (sym v.1 ∙ ap place_of q),
      λ q. unsafe-is (judge ts σ) (v.0 ∙ ap unsafe q) ∙ ap (Failed Assert) (v.1 ∙ ap place_of q),
    )

-- ---- well formed

-- where fewer symbols may be read, but all that the expression reads
token_cover : (may might : ℕ → Bool) (t : Token) → ((x : ℕ) → reads_token x t ≡ true → may x ≡ true → might x ≡ true)
    → reads_only may t ≡ true → reads_only might t ≡ true
token_cover may might (Const n) h k = k
token_cover may might (Symbol s) h k = h s (eq-eqb s s refl) k
token_cover may might (Un o) h k = k
token_cover may might (Bin o) h k = k
token_cover may might Ite h k = k

ok_cover : (may might : ℕ → Bool) (limit d z : ℕ) (e : List Token) → ((x : ℕ) → reads x e ≡ true → may x ≡ true → might x ≡ true)
    → Ok may limit d z e → Ok might limit d z e
ok_cover may might limit d z [] h o = o
ok_cover may might limit d z (t ∷ e) h o =
    let f = fits-is may limit d t o.0 in (
      is-fits might limit d t (record {
        enough = f.enough;
        room = f.room;
        known = token_cover may might t (λ x r. h x (or_left _ (reads x e) r)) f.known;
      }),
      ok_cover may might limit (after d t) z e (λ x r. h x (or_right (reads_token x t) _ r)) o.1,
    )

-- τ allows what σ does, of the symbols that the trace reads
record Covers (ts : List Stmt) (σ τ : Seen) : Type 0 where
  lower : τ.least ≤ σ.least
  tells : σ.bounds ≡ τ.bounds
  readable : (x : ℕ) → reads_trace x ts ≡ true → σ.readable x ≡ true → τ.readable x ≡ true

module _ (ts : List Stmt) (σ τ : Seen) (p x : ℕ) (e : List Token) where
  covers_assign : Covers (Assign p x e ∷ ts) σ τ → Covers ts (see σ (Assign p x e)) (see τ (Assign p x e))
  covers_assign c = record {
    lower = omega arith;
    tells = c.tells;
    readable =
        λ y r k. or_cases (eqb y x) (σ.readable y) (or_left _ (τ.readable y))
        (λ q. or_right (eqb y x) _ (c.readable y (or_right (reads y e) _ r) q)) k;
  }

  covers_unread : reads_trace x ts ≡ false → σ.least ≤ x → Covers ts σ τ → Covers ts (see σ (Assign p x e)) τ
  covers_unread n l c = record {
    lower = omega (arith, c.lower);
    tells = c.tells;
    readable = λ y r k.
        or_cases (eqb y x) (σ.readable y) (λ q. let z : ◌≡◌ {A = Bool} true false = sym r ∙ ap (λ k. reads_trace k ts) (eqb-true y x q)
        ∙ n in cc) (c.readable y r) k;
  }

module _ (S : ℕ) (ts : List Stmt) (ih : (σ τ : Seen) → Covers (slice ts) σ τ → StmtsOk S σ ts → StmtsOk S τ (slice ts)) (σ τ : Seen) where
  assign-ok : (p x : ℕ) (e : List Token) (b : Bool) → reads_trace x (slice ts) ≡ b
      → Covers (cond b (Assign p x e ∷ slice ts) (slice ts)) σ τ
      → StmtsOk S σ (Assign p x e ∷ ts) → StmtsOk S τ (cond b (Assign p x e ∷ slice ts) (slice ts))
  assign-ok p x e true n c ((a, l, m, o), os) = (
    (
      a,
      omega (arith, c.lower),
      m,
      (
        ok_cover σ.readable τ.readable 17 0 1 e
            (λ y r. c.readable y (or_left _ (reads_trace y (slice ts)) r)) o.0,
        o.1,
      ),
    ),
    ih (see σ (Assign p x e)) (see τ (Assign p x e)) (covers_assign (slice ts) σ τ p x e c) os,
  )
  assign-ok p x e false n c ((a, l, m, o), os) = ih (see σ (Assign p x e)) τ (covers_unread (slice ts) σ τ p x e n l c) os

  test-ok : (k : Kind) (p : ℕ) (e : List Token) (b : Bool) → Covers (cond b (Test k p e ∷ slice ts) (slice ts)) σ τ
      → StmtsOk S σ (Test k p e ∷ ts) → StmtsOk S τ (cond b (Test k p e ∷ slice ts) (slice ts))
  test-ok k p e true c ((a, t, o), os) = (
    (
      a,
      subst (λ b. Told b k) c.tells t,
      (ok_cover σ.readable τ.readable 17 0 1 e (λ y r. c.readable y (or_left _ (reads_trace y (slice ts)) r)) o.0, o.1),
    ),
    ih σ τ (record { lower = c.lower; tells = c.tells; readable = λ y r. c.readable y (or_right (reads y e) _ r) }) os,
  )
  test-ok k p e false c (o, os) = ih σ τ c os

slice_covers : (S : ℕ) (ts : List Stmt) (σ τ : Seen) → Covers (slice ts) σ τ → StmtsOk S σ ts → StmtsOk S τ (slice ts)
unfolding slice
slice_covers S [] σ τ c o = tt
slice_covers S (Assign p x e ∷ ts) σ τ c o = assign-ok S ts (slice_covers S ts) σ τ p x e (reads_trace x (slice ts)) refl c o
slice_covers S (Test k p e ∷ ts) σ τ c o = test-ok S ts (slice_covers S ts) σ τ k p e (is_assert k || has_assert ts) c o

pub slice-ok : (head : Head) (ts : List Stmt) → StmtsOk head.inputs (at_first head) ts → StmtsOk head.inputs (at_first head) (slice ts)
slice-ok head ts o =
    slice_covers head.inputs ts (at_first head) (at_first head) (record { lower = omega arith; tells = refl; readable = λ x r k. k }) o

-- ---- no longer, and accepted

pub slice_shorter : (ts : List Stmt) → length (slice ts) ≤ length ts
unfolding slice
slice_shorter [] = omega arith
slice_shorter (t ∷ ts) = go (keep t ts (slice ts)) (slice_shorter ts)
  where
    go : (b : Bool) → length (slice ts) ≤ length ts → length (cond b (t ∷ slice ts) (slice ts)) ≤ suc (length ts)
    go true h = omega arith
    go false h = omega arith

pub slice_smaller : (ts : List Stmt) → length (records_bytes stmt_bytes (slice ts)) ≤ length (records_bytes stmt_bytes ts)
unfolding slice
slice_smaller [] = omega arith
slice_smaller (t ∷ ts) = go (keep t ts (slice ts)) (slice_smaller ts)
  where
    first : (us : List Stmt) → length (records_bytes stmt_bytes (t ∷ us)) ≡ length (record_bytes stmt_bytes t) + length
        (records_bytes stmt_bytes us)
    first us = length-append (record_bytes stmt_bytes t) (records_bytes stmt_bytes us)

    go : (b : Bool) → length (records_bytes stmt_bytes (slice ts)) ≤ length (records_bytes stmt_bytes ts)
        → length (records_bytes stmt_bytes (cond b (t ∷ slice ts) (slice ts))) ≤ length (records_bytes stmt_bytes (t ∷ ts))
    go true h = omega (arith, first (slice ts), first ts)
    go false h = omega (arith, first ts)

-- its bytes are no more than the trace's
pub slice_fits : (head : Head) (ts : List Stmt) → length (encode_trace head (slice ts)) ≤ length (encode_trace head ts)
slice_fits head ts =
    omega (arith, encode-length stmt_bytes head ts, encode-length stmt_bytes head (slice ts), slice_smaller ts)

-- the slice of a well-formed trace within the limits, written and read again, is itself
pub slice-read : (head : Head) (ts : List Stmt) → is_trace head.version ≡ true → head.inputs ≤ inputs_limit head.version
    → length ts ≤ 4096 → length (encode_trace head ts) ≤ 65535 → StmtsOk head.inputs (at_first head) ts
    → read_trace (encode_trace head (slice ts)) ≡ Accepted head (slice ts)
slice-read head ts known few count total o =
    read-encode head (slice ts) known few (omega (arith, slice_shorter ts)) (omega (arith, slice_fits head ts))
    (slice-ok head ts o)

pub slice-accepted : (s : List ℕ) (head : Head) (ts : List Stmt) → All Byte s → read_trace s ≡ Accepted head ts
    → read_trace (encode_trace head (slice ts)) ≡ Accepted head (slice ts)
unfolding read_trace
slice-accepted s head ts o h =
    let t = trace_ok s head ts o h in
    let f = file-is is_trace 4096 stmts s head ts h in
    let g = header_is is_trace 4096 s f.header in
    let few : length s < 65536 = short is_trace 4096 s o f.header in
    let version : header_version s ≡ head.version = ap (λ h. h.version) f.is in
    slice-read head ts (ap is_trace (sym version) ∙ g.right) (omega (arith, g.inputs, f.inputs, ap inputs_limit version)) t.few
    (omega (arith, ap length (encode-read s head ts o h))) t.ok

-- where it fits, nothing is refused
pub slice-done : (s : List ℕ) (head : Head) (ts : List Stmt) (room : ℕ) → read_trace s ≡ Accepted head ts
    → length (encode_trace head (slice ts)) ≤ room → slice_answer s room ≡ slice_of head (slice ts)
unfolding slice_answer
slice-done s head ts room h fits =
    ap (answered room) h
    ∙ ap (λ b. cond b (slice_of head (slice ts)) (refusal 10 0)) (le-leb (length (encode_trace head (slice ts))) room fits)

-- ---- the slice of a slice

-- a slice has an Assert exactly if its trace has
pub slice-asserts : (ts : List Stmt) → has_assert (slice ts) ≡ has_assert ts
unfolding slice
slice-asserts [] = refl
slice-asserts (Assign p x e ∷ ts) = go (reads_trace x (slice ts)) ∙ slice-asserts ts
  where
    go : (b : Bool) → has_assert (cond b (Assign p x e ∷ slice ts) (slice ts)) ≡ has_assert (slice ts)
    go true = refl
    go false = refl
slice-asserts (Test k p e ∷ ts) = go (is_assert k || has_assert ts) refl (slice-asserts ts)
  where
    go : (b : Bool) → (is_assert k || has_assert ts) ≡ b → has_assert (slice ts) ≡ has_assert ts
        → has_assert (cond b (Test k p e ∷ slice ts) (slice ts)) ≡ (is_assert k || has_assert ts)
    go true q ih = ap (λ b. is_assert k || b) ih
    go false q ih = ih ∙ (no_assert-here k (has_assert ts) p q).1 ∙ sym q

-- so a statement is kept before the slice exactly if it is kept before the trace
slice-keep : (t : Stmt) (ts kept : List Stmt) → keep t (slice ts) kept ≡ keep t ts kept
slice-keep (Assign p x e) ts kept = refl
slice-keep (Test k p e) ts kept = ap (λ b. is_assert k || b) (slice-asserts ts)

pub slice-slice : (ts : List Stmt) → slice (slice ts) ≡ slice ts
unfolding slice
slice-slice [] = refl
slice-slice (t ∷ ts) = go (keep t ts (slice ts)) refl (slice-slice ts)
  where
    go : (b : Bool) → keep t ts (slice ts) ≡ b → slice (slice ts) ≡ slice ts
        → slice (cond b (t ∷ slice ts) (slice ts)) ≡ cond b (t ∷ slice ts) (slice ts)
    go true q ih = ap (kept_before t (slice ts)) ih ∙ ap (λ b. cond b (t ∷ slice ts) (slice ts)) (slice-keep t ts (slice ts) ∙ q)
    go false q ih = ih

-- slicing a slice's bytes answers as slicing the trace's
pub slice-again : (s : List ℕ) (room : ℕ) → All Byte s → (slice_answer s room).reply ≡ 0 → slice_answer (slice_answer s room).bytes room
    ≡ slice_answer s room
unfolding slice_answer
slice-again s room o h = go (read_trace s) refl h
  where
    go : (i : Input Stmt) → read_trace s ≡ i → (answered room i).reply ≡ 0 → slice_answer (answered room i).bytes room ≡ answered room i
    go (Refused r at) q h = absurd (omega (arith, trace_refused-low s r at q))
    go (Accepted head ts) q h = sliced (leb (length (encode_trace head (slice ts))) room) refl h
      where
        sliced : (b : Bool) → leb (length (encode_trace head (slice ts))) room ≡ b
            → (cond b (slice_of head (slice ts)) (refusal 10 0)).reply ≡ 0
            → slice_answer (cond b (slice_of head (slice ts)) (refusal 10 0)).bytes room ≡ cond b (slice_of head (slice ts)) (refusal 10 0)
        sliced true e h =
            ap (answered room) (slice-accepted s head ts o q)
            ∙ ap (λ us. cond (leb (length (encode_trace head us)) room) (slice_of head us) (refusal 10 0)) (slice-slice ts)
            ∙ ap (λ b. cond b (slice_of head (slice ts)) (refusal 10 0)) e
        sliced false e h = absurd (omega arith)
