-- Reading and writing traces undo each other.
use Rattle.std.specs.Prelude.{ℕ, ◌+◌, ◌≤◌, ◌<◌, ◌≡◌, refl, true, eqb, List, [], ◌∷◌, ◌++◌, length, drop}
use Rattle.std.proofs.Common.{arith, sym, ap, ap₂, ◌∙◌, length-drop, take-append-drop, drop-drop, eq-eqb, le-leb, lt-ltb}
use Rattle.expr.specs.declared.File.TheVariants.{Trace}
use Rattle.expr.specs.Lists.{All, all_drop, or_left, or_right}
use Rattle.expr.specs.Number.{Byte, number_of, bytes_of}
use Rattle.expr.specs.NumberLaws.{bytes_read}
use Rattle.expr.specs.declared.token.Token.{Token}
use Rattle.expr.specs.Token.{expr_bytes}
use Rattle.expr.specs.Expr.{Whole, parse}
use Rattle.expr.proofs.ExprLaws.{parse-accepted, parse-written}
use Rattle.file.specs.File.{Head, head_size, input_room, inputs_limit, Good, Accepted}
use Rattle.file.proofs.FileLaws.{inputs-room, symbols_in_two-bytes}
use Rattle.file.specs.File.{Chain}
use Rattle.file.proofs.EncodeLaws.{encode-length, file-same, field_written, file-written, records-written}
use Rattle.trace.specs.Trace.{Stmt, Assign, Test, Seen, at_first, see, assign, assign_at, test_at, stmt, stmts, read_trace, stmt_bytes}
use Rattle.trace.specs.Trace.{trace_version, old_version, is_trace, tells_bound, trace_head, encode_trace}
use Rattle.trace.specs.WellFormed.{StmtOk, StmtsOk}
use Rattle.trace.specs.TraceLaws.{kind-test, Says, says-assign, says-test, says}

pub stmt-same : (top : ℕ) (σ : Seen) (body : List ℕ) (x : Stmt) → All Byte body → stmt top σ body ≡ Good x → stmt_bytes x ≡ body
unfolding stmt
stmt-same top σ [] x o h = absurd (let y : ◌≡◌ {A = ℕ} 0 1 = cc in omega arith)
stmt-same top σ (b ∷ bs) x o h = go x (says top σ (b ∷ bs) (omega arith) x h)
  where
    expr : (k : ℕ) (e : List Token) → parse Trace σ.readable (drop k (b ∷ bs)) ≡ Whole e → expr_bytes Trace e ≡ drop k (b ∷ bs)
    expr k e q = (parse-accepted Trace σ.readable (drop k (b ∷ bs)) e (all_drop Byte k (b ∷ bs) o) q).bytes

    front : (r : List ℕ) → All Byte r → 2 ≤ length r → bytes_of 2 (number_of 2 r) ++ drop 2 r ≡ r
    front r o l = ap (λ y. y ++ drop 2 r) (bytes_read 2 r o l) ∙ take-append-drop 2 r

    go : (x : Stmt) → Says top σ (b ∷ bs) x → stmt_bytes x ≡ b ∷ bs
    go x (says-assign e k l m n p) =
        ap₂ {C = List ℕ} (λ x y. x ∷ y) (sym k)
        (ap (λ y. bytes_of 2 (number_of 2 bs) ++ (bytes_of 2 (number_of 2 (drop 2 bs)) ++ y)) (expr 5 e p ∙ sym (drop-drop 2 2 bs))
        ∙ ap (λ y. bytes_of 2 (number_of 2 bs) ++ y) (front (drop 2 bs) (all_drop Byte 2 bs o.1) (omega (arith, length-drop 2 bs)))
        ∙ front bs o.1 (omega arith))
    go x (says-test k e t c l p) =
        ap₂ {C = List ℕ} (λ x y. x ∷ y) (sym c) (ap (λ y. bytes_of 2 (number_of 2 bs) ++ y) (expr 3 e p) ∙ front bs o.1 (omega arith))

-- a trace that is read, written again, is its bytes
pub encode-read : (s : List ℕ) (head : Head) (ts : List Stmt) → All Byte s → read_trace s ≡ Accepted head ts → encode_trace head ts ≡ s
unfolding read_trace
encode-read s head ts o h =
    file-same stmt_bytes (λ head. stmt (head.inputs + 4096)) see at_first (λ head. stmt-same (head.inputs + 4096))
    is_trace 4096 s head ts o h

-- ---- written, then read

stmt-written : (S : ℕ) → S ≤ input_room → (σ : Seen) (x : Stmt) → StmtOk S σ x → stmt (S + 4096) σ (stmt_bytes x) ≡ Good x
unfolding stmt
stmt-written S few σ (Assign p x e) (a, b, c, d) =
    field_written 2 p (bytes_of 2 x ++ expr_bytes Trace e) (assign_at (S + 4096) σ) a
    ∙ field_written 2 x (expr_bytes Trace e) (assign (S + 4096) σ p) (omega (arith, symbols_in_two-bytes))
    ∙ rw (le-leb σ.least x b, lt-ltb x (S + 4096) c, parse-written Trace σ.readable 0 e d.0 d.1)
stmt-written S few σ (Test k p e) (a, b, d) =
    kind-test (S + 4096) σ (stmt_bytes (Test k p e)) (omega arith) k b refl
    ∙ field_written 2 p (expr_bytes Trace e) (test_at σ k) a ∙ rw (parse-written Trace σ.readable 0 e d.0 d.1)

stmt_some : (x : Stmt) → 0 < length (stmt_bytes x)
stmt_some (Assign p x e) = omega arith
stmt_some (Test k p e) = omega arith

chain : (S : ℕ) (σ : Seen) (ts : List Stmt) → StmtsOk S σ ts → Chain (stmt (S + 4096)) see [] (StmtOk S) σ ts
chain S σ [] o = tt
chain S σ (x ∷ ts) o = (o.0, chain S (see σ x) ts o.1)

-- a trace that is written, read again, is the trace: for every well-formed one within the limits
pub read-encode : (head : Head) (ts : List Stmt) → is_trace head.version ≡ true → head.inputs ≤ inputs_limit head.version
    → length ts ≤ 4096 → length (encode_trace head ts) < 65536 → StmtsOk head.inputs (at_first head) ts
    → read_trace (encode_trace head ts) ≡ Accepted head ts
unfolding read_trace
read-encode head ts known few count total o =
    let S = head.inputs in
    file-written stmt_bytes is_trace 4096 stmts head ts known few count (omega arith) total
    (records-written stmt_bytes (stmt (S + 4096)) see (StmtOk S) stmt_some (stmt-written S (omega (arith, inputs-room head.version)))
    (at_first head) ts (chain S (at_first head) ts o) (omega (arith, encode-length stmt_bytes head ts)))

-- a trace that is written anew is known, and takes all inputs
pub room-written : input_room ≤ inputs_limit trace_version
unfolding inputs_limit
room-written = omega arith

pub trace_known : (S : ℕ) → is_trace (trace_head S).version ≡ true
unfolding is_trace
trace_known S = or_left (eqb trace_version trace_version) (eqb trace_version old_version) (eq-eqb trace_version trace_version refl)

-- so is one of the version before, which takes as many inputs and has a header as long
pub old-known : is_trace old_version ≡ true
unfolding is_trace
old-known = or_right (eqb old_version trace_version) (eqb old_version old_version) (eq-eqb old_version old_version refl)

pub old-room : input_room ≤ inputs_limit old_version
unfolding inputs_limit
old-room = omega arith

pub old-size : head_size old_version ≡ head_size trace_version
unfolding head_size
old-size = refl

-- what is written tells the bound's tests apart
pub written-tells : (S : ℕ) → tells_bound (trace_head S).version ≡ true
unfolding tells_bound
written-tells S = eq-eqb trace_version trace_version refl
