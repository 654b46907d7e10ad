-- Any pass over the statements of an accepted trace: a record's expression, what the header says, and, at the offset of the k-th record,
-- that the statements from the k-th on are read from there. Other crates' loops use it.
use Prim.Native.Nat.{ℕ, suc, ◌+◌, ◌-◌, ◌≤◌, ◌<◌}
use native.Mathlib.Omega.{arith}
use mathlib.Core.Path.{◌≡◌, refl, sym, ap, ◌∙◌, subst}
use mathlib.Core.Bool.{Bool, true, false, cond}
use mathlib.Core.List.{List, [], ◌∷◌}
use lib.ListN.{length, drop, get_or}
use lib.Dec.{eqb}
use borrow.Author.Tests.{eq-eqb, ne_eqb, lt-ltb, ltb-true}
use Rattle.expr.specs.declared.File.TheVariants.{Trace}
use Rattle.expr.specs.Lists.{All, drop-next}
use Rattle.expr.specs.Number.{Byte, number_of}
use Rattle.expr.specs.Expr.{below, parse}
use Rattle.expr.specs.Shown.{is_whole, tokens_of}
use Rattle.file.specs.File.{Head, input_room, header_version, header_size, header_inputs, header_count, after_header, header_reply, Good}
use Rattle.file.specs.File.{frame, Read, Input, Accepted, Refused}
use Rattle.file.specs.Shown.{is_good, is_accepted, listed}
use Rattle.file.proofs.FileLaws.{inputs-room, header_is, file-is, framed, record-good, Next, next-record, records-chain}
use Rattle.file.proofs.ReadingLaws.{short}
use Rattle.file.proofs.RecordLaws.{rest-length}
use Rattle.trace.specs.Trace.{Stmt, Seen, at_first, see, stmt, stmts_from, stmts, is_trace, read_trace}
use Rattle.trace.specs.TraceLaws.{symbol-room, Wider, record-wider, wider-after}
use Rattle.trace.specs.Shown.{symbol_room, loose, held, expr_start, expr_part, expr_of}
use Rattle.trace.proofs.Held.{Held, held_at}
use Rattle.trace.proofs.Moves.{expr-whole}

-- ---- the expression of a record

module _ {s : List ℕ} {at : ℕ} (h : Held symbol_room loose s at) {e : List ℕ} (q : e ≡ expr_part s at) where
  pub expr-is-whole : is_whole (parse Trace (below symbol_room) e) ≡ true
  expr-is-whole = ap is_whole (expr-whole h symbol_room refl q)

  pub tokens_are : tokens_of (parse Trace (below symbol_room) e) ≡ expr_of h.statement
  tokens_are = ap tokens_of (expr-whole h symbol_room refl q)

  expr-length : expr_start (get_or s (at + 2) 0) + length e ≡ 2 + number_of 2 (drop at s)
  expr-length = omega (arith, ap length q, rest-length s at (expr_start (get_or s (at + 2) 0)) h.whole h.starts)

  pub assign-length : get_or s (at + 2) 0 ≡ 1 → 7 + length e ≡ 2 + number_of 2 (drop at s)
  assign-length k = let z : expr_start (get_or s (at + 2) 0) ≡ 7 = rw (eq-eqb (get_or s (at + 2) 0) 1 k) in omega (arith, expr-length)

  pub test-length : (get_or s (at + 2) 0 ≡ 1 → ⊥) → 5 + length e ≡ 2 + number_of 2 (drop at s)
  test-length k = let z : expr_start (get_or s (at + 2) 0) ≡ 5 = rw (ne_eqb (get_or s (at + 2) 0) 1 k) in omega (arith, expr-length)

  -- of any kind
  pub five-bytes : 5 ≤ 2 + number_of 2 (drop at s)
  five-bytes = go (eqb (get_or s (at + 2) 0) 1) expr-length
    where
      go : (x : Bool) → cond x 7 5 + length e ≡ 2 + number_of 2 (drop at s) → 5 ≤ 2 + number_of 2 (drop at s)
      go true l = omega arith
      go false l = omega arith

-- ---- the header

pub record Known (s : List ℕ) : Type 0 where
  pub head : Head
  pub ts : List Stmt
  pub is : read_trace s ≡ Accepted head ts
  pub right : header_reply is_trace 4096 s ≡ 0
  pub long : header_size s ≤ length s
  pub inputs : header_inputs s ≡ head.inputs
  pub few-inputs : head.inputs ≤ input_room
  pub read : stmts_from head.inputs (header_count s) (at_first head) (after_header s) ≡ Read ts
  pub count : length ts ≡ header_count s
  pub few : header_count s ≤ 4096

pub known : (s : List ℕ) → is_accepted (read_trace s) ≡ true → Known s
unfolding read_trace
known s h = go (read_trace s) refl h
  where
    go : (x : Input Stmt) → read_trace s ≡ x → is_accepted x ≡ true → Known s
    go (Accepted head ts) e h =
        let f = file-is is_trace 4096 stmts s head ts e in
        let g = header_is is_trace 4096 s f.header in
        record {
          head = head;
          ts = ts;
          is = e;
          right = f.header;
          long = g.long;
          inputs = f.inputs;
          few-inputs = omega (arith, g.inputs, f.inputs, inputs-room (header_version s));
          read = f.read;
          count =
              (records-chain (stmt (head.inputs + 4096)) see s (λ σ a. Unit {0}) (λ σ l m a q. tt) (header_count s) (header_size s)
              (at_first head) ts f.read).1;
          few = g.count;
        }
    go (Refused r f) e h = absurd (let z : ◌≡◌ {A = ℕ} 0 1 = cc in omega arith)

-- ---- record after record

pub record Passing (s : List ℕ) (k at : ℕ) : Type 0 where
  pub S : ℕ
  pub σ : Seen
  pub wide : Wider (S + 4096) σ symbol_room loose
  pub read : stmts_from S (header_count s - k) σ (drop at s) ≡ Read (drop k (listed (read_trace s)))
  pub inside : at ≤ length s
  pub few : length s ≤ 65535

-- with the code's own size of the header
pub pass-start : (s : List ℕ) → All Byte s → is_accepted (read_trace s) ≡ true → {at : ℕ} → at ≡ header_size s → Passing s 0 at
pass-start s o h {at} front =
    let v = known s h in
    let S = v.head.inputs in
    let few : S + 4096 ≤ symbol_room = omega (arith, v.few-inputs, symbol-room) in
    subst (Passing s 0) (sym front) (record {
      S = S;
      σ = at_first v.head;
      wide = record {
        higher = few;
        lower = omega arith;
        reads = λ x q. lt-ltb x symbol_room (omega (arith, ltb-true x S q, few));
        tells = λ t. refl;
      };
      read =
          ap (λ m. stmts_from S m (at_first v.head) (after_header s)) (let z : header_count s - 0 ≡ header_count s = omega arith in z)
          ∙ v.read ∙ ap Read (sym (ap listed v.is));
      inside = v.long;
      few = omega (arith, short is_trace 4096 s o v.right);
    })

-- the k-th statement, and the pass behind it
pub record Passed (s : List ℕ) (k at : ℕ) : Type 0 where
  pub statement : Stmt
  pub holds : held (drop at s) ≡ Good statement
  pub split : drop k (listed (read_trace s)) ≡ statement ∷ drop (k + 1) (listed (read_trace s))
  pub here : Held symbol_room loose s at
  pub then : (len : ℕ) → len ≡ number_of 2 (drop at s) → Passing s (k + 1) (at + (2 + len))

module _ {s : List ℕ} {k at : ℕ} (v : Passing s k at) where
  pub pass : k < header_count s → Passed s k at
  pass h =
      let ts = listed (read_trace s) in
      let T = v.S + 4096 in
      let c = header_count s - (k + 1) in
      let next : Next (stmt T) see s at c v.σ (drop k ts) = next-record (stmt T) see s at c v.σ (drop k ts)
      (ap (λ m. stmts_from v.S m v.σ (drop at s)) (let z : suc c ≡ header_count s - k = omega arith in z) ∙ v.read) in
      let x = next.head in
      let same : held (drop at s) ≡ Good x = record-wider T v.σ symbol_room loose v.wide (drop at s) x next.good in
      let left : drop (k + 1) ts ≡ next.tail = drop-next ts k next.is in
      let f : number_of 2 (drop at s) ≡ frame (drop at s) = (framed (drop at s)
      (record-good (stmt T v.σ) (drop at s) x next.good).0).is in
      let held-here = held_at symbol_room loose s at (ap is_good same) in
      record {
        statement = x;
        holds = same;
        split = next.is ∙ ap {B = List Stmt} (λ r. x ∷ r) (sym left);
        here = held-here;
        then = λ len q. record {
          S = v.S;
          σ = see v.σ x;
          wide = wider-after T v.σ v.wide (drop at s) x next.good;
          read = ap (λ m. stmts_from v.S c (see v.σ x) (drop (at + (2 + m)) s)) (q ∙ f) ∙ next.on ∙ ap Read (sym left);
          inside = omega (arith, held-here.whole);
          few = v.few;
        };
      }

  -- no statement is left behind the last record
  pub pass-end : header_count s ≤ k → drop k (listed (read_trace s)) ≡ []
  pass-end h = none (drop k (listed (read_trace s))) (omega (arith, left))
    where
      left : length (drop k (listed (read_trace s))) ≡ header_count s - k
      left =
          (records-chain (stmt (v.S + 4096)) see s (λ σ a. Unit {0}) (λ σ l m a q. tt) (header_count s - k) at v.σ
          (drop k (listed (read_trace s))) v.read).1

      none : (ts : List Stmt) → length ts ≡ 0 → ts ≡ []
      none [] e = refl
      none (t ∷ ts) e = absurd (omega arith)
