-- How long a script can be: 61 letters for each byte of its trace and 1,845 besides, so four million hold every script.
--
-- Why. The slots are x0 to x16, so the longest token for its bytes is `zero` at x10 or above: 61 letters for its one byte (`token-short`).
-- A statement's bytes pay for its lines; the 1,845 are the declarations of 64 inputs and the lines around, less what the header's six bytes
-- pay.
use Rattle.std.specs.Prelude.{ℕ, zero, suc, ◌+◌, ◌-◌, ◌*◌, ◌≤◌, ◌<◌, ◌≡◌, refl, Bool, true, false, cond, List, [], ◌∷◌, ◌++◌, length}
use Prim.Native.String.{String}
use Rattle.std.proofs.Common.{arith, ap, length-append}
use Rattle.expr.specs.declared.File.TheVariants.{Trace}
use Rattle.expr.specs.Lists.{All}
use Rattle.expr.specs.Number.{Byte, bytes_of}
use Rattle.expr.specs.NumberLaws.{bytes_of-length}
use Rattle.expr.specs.declared.word.Unary.{Unary}
use Rattle.expr.specs.declared.word.Unary.TheVariants.{Not, Neg, Zero}
use Rattle.expr.specs.declared.word.Binary.{Binary}
use Rattle.expr.specs.declared.word.Binary.TheVariants.{Add, Sub, Mul, Udiv, Urem, And, Or, Xor, Shl, Lshr, Equal, Ult, Ule, Slt}
use Rattle.expr.specs.declared.token.Token.{Token}
use Rattle.expr.specs.declared.token.Token.TheVariants.{Const, Symbol, Un, Bin, Ite}
use Rattle.expr.specs.Token.{token_bytes, expr_bytes}
use Rattle.expr.specs.Expr.{pops, after}
use Rattle.expr.proofs.ExprLaws.{fits-is}
use Rattle.expr.specs.Expr.{Ok}
use Rattle.file.specs.Outcome.{Kind, Assume, Assert, Bound}
use Rattle.file.specs.File.{Head, input_room, Input, Accepted, Refused, record_bytes, records_bytes}
use Rattle.file.proofs.FileLaws.{head-long}
use Rattle.file.proofs.EncodeLaws.{encode-length}
use Rattle.trace.specs.Trace.{Stmt, Assign, Test, Seen, at_first, see, read_trace, stmt_bytes}
use Rattle.trace.specs.TraceLaws.{trace_refused-low, trace_short}
use Rattle.trace.specs.WellFormed.{ExprOk, StmtsOk, trace_ok}
use Rattle.trace.specs.EncodeLaws.{encode-read}
use Rattle.trace.specs.Asserts.{has_assert, asserted}
use Rattle.write.specs.Ascii.{ascii}
use Rattle.write.specs.Decimal.{decimal}
use Rattle.write.specs.DecimalLaws.{ten_digits, two_digits}
use Rattle.script.specs.Smt.{Relation, equals, distinct, bvult, bvule, bvslt, Term, hex, slot, bind, Formula, never, either, both}
use Rattle.script.specs.Script.{unary_term, binary_term, token_term, term_from, expr_term, numbers_from, assigned, equations_of, tested}
use Rattle.script.specs.Script.{violation, script_of}
use Rattle.script.specs.ScriptText.{constant, symbol_name, slot_name, relation_name, apply, apply_two, ite_text, term_text, formula_text}
use Rattle.script.specs.ScriptText.{declaration, declarations, equation_line, equation_lines, script_text}
use Rattle.script.specs.Answer.{answered, script_answer}
use Rattle.script.proofs.BytesLaws.{script_done}

-- ---- the letters of each form

constant-length : (n : ℕ) → length (constant n) ≡ 10
unfolding constant
constant-length n = refl

apply-length : (f : String) (a : List ℕ) → length (apply f a) ≡ length (ascii f) + length a + 3
apply-length f a =
    let x = length-append (ascii "(" ++ ascii f ++ ascii " " ++ a) (ascii ")") in
    let y = length-append (ascii "(" ++ ascii f ++ ascii " ") a in
    let z = length-append (ascii "(" ++ ascii f) (ascii " ") in
    omega arith

two-length : (f : String) (a b : List ℕ) → length (apply_two f a b) ≡ length (ascii f) + length a + length b + 4
two-length f a b =
    let w = length-append (ascii "(" ++ ascii f ++ ascii " " ++ a ++ ascii " " ++ b) (ascii ")") in
    let x = length-append (ascii "(" ++ ascii f ++ ascii " " ++ a ++ ascii " ") b in
    let y = length-append (ascii "(" ++ ascii f ++ ascii " " ++ a) (ascii " ") in
    let z = length-append (ascii "(" ++ ascii f ++ ascii " ") a in
    let v = length-append (ascii "(" ++ ascii f) (ascii " ") in
    omega arith

ite-length : (c t u : List ℕ) → length (ite_text c t u) ≡ length c + length t + length u + 8
ite-length c t u =
    let v = length-append (ascii "(ite " ++ c ++ ascii " " ++ t ++ ascii " " ++ u) (ascii ")") in
    let w = length-append (ascii "(ite " ++ c ++ ascii " " ++ t ++ ascii " ") u in
    let x = length-append (ascii "(ite " ++ c ++ ascii " " ++ t) (ascii " ") in
    let y = length-append (ascii "(ite " ++ c ++ ascii " ") t in
    let z = length-append (ascii "(ite " ++ c) (ascii " ") in
    omega arith

test-length : (r : Relation) (a b : List ℕ) → length (ite_text (apply_two (relation_name r) a b) (constant 1) (constant 0))
    ≡ length (ascii (relation_name r)) + length a + length b + 32
test-length r a b =
    let c = apply_two (relation_name r) a b in
    omega (arith, ite-length c (constant 1) (constant 0), two-length (relation_name r) a b, constant-length 1, constant-length 0)

bind-length : (k : ℕ) (t body : Term)
    → length (term_text (bind k t body)) ≡ length (slot_name k) + length (term_text t) + length (term_text body) + 12
bind-length k t body =
    let u = length-append (ascii "(let ((" ++ slot_name k ++ ascii " " ++ term_text t ++ ascii ")) " ++ term_text body) (ascii ")") in
    let v = length-append (ascii "(let ((" ++ slot_name k ++ ascii " " ++ term_text t ++ ascii ")) ") (term_text body) in
    let w = length-append (ascii "(let ((" ++ slot_name k ++ ascii " " ++ term_text t) (ascii ")) ") in
    let x = length-append (ascii "(let ((" ++ slot_name k ++ ascii " ") (term_text t) in
    let y = length-append (ascii "(let ((" ++ slot_name k) (ascii " ") in
    omega arith

-- ---- a token and its word

slot-short : (k : ℕ) → k < 100 → length (slot_name k) ≤ 3
slot-short k h = omega (arith, two_digits k h)

module _ (k : ℕ) (h : k ≤ 16) where
  abbrev x : List ℕ
  x = slot_name k

  abbrev y : List ℕ
  y = slot_name (k + 1)

  unary-short : (o : Unary) → length (term_text (unary_term o (slot k))) ≤ 46
  unary-short Not = omega (arith, apply-length "bvnot" x, slot-short k (omega arith))
  unary-short Neg = omega (arith, apply-length "bvneg" x, slot-short k (omega arith))
  unary-short Zero = omega (arith, test-length equals x (constant 0), constant-length 0, slot-short k (omega arith))

  pair-short : (length x ≤ 3) × (length y ≤ 3)
  pair-short = (slot-short k (omega arith), slot-short (k + 1) (omega arith))

  binary-short : (o : Binary) → length (term_text (binary_term o (slot k) (slot (k + 1)))) ≤ 46
  binary-short Add = omega (arith, two-length "bvadd" x y, pair-short)
  binary-short Sub = omega (arith, two-length "bvsub" x y, pair-short)
  binary-short Mul = omega (arith, two-length "bvmul" x y, pair-short)
  binary-short Udiv = omega (arith, two-length "bvudiv" x y, pair-short)
  binary-short Urem = omega (arith, two-length "bvurem" x y, pair-short)
  binary-short And = omega (arith, two-length "bvand" x y, pair-short)
  binary-short Or = omega (arith, two-length "bvor" x y, pair-short)
  binary-short Xor = omega (arith, two-length "bvxor" x y, pair-short)
  binary-short Shl = omega (arith, two-length "bvshl" x y, pair-short)
  binary-short Lshr = omega (arith, two-length "bvlshr" x y, pair-short)
  binary-short Equal = omega (arith, test-length equals x y, pair-short)
  binary-short Ult = omega (arith, test-length bvult x y, pair-short)
  binary-short Ule = omega (arith, test-length bvule x y, pair-short)
  binary-short Slt = omega (arith, test-length bvslt x y, pair-short)

  token-short : (t : Token) → length (slot_name k) + length (term_text (token_term k t)) + 12 ≤ 61 * length (token_bytes Trace t)
  token-short (Const n) = omega (arith, constant-length n, bytes_of-length 4 n, pair-short)
  token-short (Symbol s) = omega (arith, ten_digits s, bytes_of-length 2 s, pair-short)
  token-short (Un o) = omega (arith, unary-short o, pair-short)
  token-short (Bin o) = omega (arith, binary-short o, pair-short)
  token-short Ite =
      let z = slot_name (k + 2) in
      let c = apply_two "distinct" x (constant 0) in
      omega (
        arith,
        ite-length c y z,
        two-length "distinct" x (constant 0),
        constant-length 0,
        pair-short,
        slot-short (k + 2) (omega arith),
      )

term-short : (may : ℕ → Bool) (d : ℕ) (e : List Token) → Ok may 17 d 1 e
    → length (term_text (term_from d e)) ≤ 61 * length (expr_bytes Trace e) + 3
term-short may d [] o = omega (arith, slot-short 0 (omega arith))
term-short may d (t ∷ e) o =
    let f = fits-is may 17 d t o.0 in
    let k = d - pops t in
    omega (
      arith,
      bind-length k (token_term k t) (term_from (after d t) e),
      token-short k (omega (arith, f.room)) t,
      term-short may (after d t) e o.1,
      length-append (token_bytes Trace t) (expr_bytes Trace e),
    )

expr-short : (may : ℕ → Bool) (e : List Token) → ExprOk may e → length (term_text (expr_term e)) ≤ 61 * length (expr_bytes Trace e) + 3
unfolding expr_term
expr-short may e o = omega (arith, term-short may 0 e o.0)

-- ---- a statement and its lines

declaration-length : (s : ℕ) → length (declaration s) ≡ length (symbol_name s) + 31
declaration-length s =
    let a = length-append (ascii "(declare-const " ++ symbol_name s) (ascii " (_ BitVec 32))\n") in
    omega arith

equation_length : (s : ℕ) (t : Term) → length (equation_line s t) ≡ length (symbol_name s) + length (term_text t) + 15
equation_length s t =
    let a = length-append (ascii "(assert (= " ++ symbol_name s ++ ascii " " ++ term_text t) (ascii "))\n") in
    let b = length-append (ascii "(assert (= " ++ symbol_name s ++ ascii " ") (term_text t) in
    let c = length-append (ascii "(assert (= " ++ symbol_name s) (ascii " ") in
    omega arith

module _ (r : Relation) (a b : Term) (f : Formula) where
  abbrev c : List ℕ
  c = apply_two (relation_name r) (term_text a) (term_text b)

  either-length : length (formula_text (either r a b f)) ≡ length (apply_two (relation_name r) (term_text a) (term_text b))
      + length (formula_text f) + 6
  either-length =
      let x = length-append (ascii "(or " ++ c ++ ascii "\n" ++ formula_text f) (ascii ")") in
      let y = length-append (ascii "(or " ++ c ++ ascii "\n") (formula_text f) in
      let z = length-append (ascii "(or " ++ c) (ascii "\n") in
      omega arith

  both-length : length (formula_text (both r a b f)) ≡ length (apply_two (relation_name r) (term_text a) (term_text b))
      + length (formula_text f) + 7
  both-length =
      let x = length-append (ascii "(and " ++ c ++ ascii "\n" ++ formula_text f) (ascii ")") in
      let y = length-append (ascii "(and " ++ c ++ ascii "\n") (formula_text f) in
      let z = length-append (ascii "(and " ++ c) (ascii "\n") in
      omega arith

-- no formula is shorter than `false`
formula_long : (f : Formula) → 5 ≤ length (formula_text f)
formula_long never = omega arith
formula_long (either r a b f) = omega (arith, either-length r a b f, formula_long f)
formula_long (both r a b f) = omega (arith, both-length r a b f, formula_long f)

tested-short : (k : Kind) (e : List Token) (f : Formula)
    → length (formula_text (tested k e f)) ≤ length (term_text (expr_term e)) + length (formula_text f) + 29
tested-short k e f = go k
  where
    t : Term
    t = expr_term e

    assumed : length (formula_text (both distinct (hex 0) (expr_term e) f)) ≤ length (term_text (expr_term e)) + length (formula_text f)
        + 29
    assumed = omega (arith, both-length distinct (hex 0) t f, two-length "distinct" (constant 0) (term_text t), constant-length 0)

    go : (k : Kind) → length (formula_text (tested k e f)) ≤ length (term_text (expr_term e)) + length (formula_text f) + 29
    go Assume = assumed
    go Assert = omega (arith, either-length equals (hex 0) t f, two-length "=" (constant 0) (term_text t), constant-length 0)
    go Bound = assumed

assign-bytes : (p x : ℕ) (e : List Token) → length (record_bytes stmt_bytes (Assign p x e)) ≡ length (expr_bytes Trace e) + 7
assign-bytes p x e =
    let b = stmt_bytes (Assign p x e) in
    let f = length-append (bytes_of 2 (length b)) b in
    let g = length-append (1 ∷ bytes_of 2 p ++ bytes_of 2 x) (expr_bytes Trace e) in
    let h = length-append (bytes_of 2 p) (bytes_of 2 x) in
    omega (arith, bytes_of-length 2 p, bytes_of-length 2 x, bytes_of-length 2 (length b))

test-bytes : (k : Kind) (p : ℕ) (e : List Token) → length (record_bytes stmt_bytes (Test k p e)) ≡ length (expr_bytes Trace e) + 5
test-bytes k p e =
    let b = stmt_bytes (Test k p e) in
    let f = length-append (bytes_of 2 (length b)) b in
    let g = length-append (bytes_of 2 p) (expr_bytes Trace e) in
    omega (arith, bytes_of-length 2 p, bytes_of-length 2 (length b))

-- ---- the script

-- the letters of the assigned symbols' declarations, of the equations and of the claim over these tests
abbrev letters : (ts tests : List Stmt) → ℕ
letters ts tests =
    length (declarations (assigned ts)) + length (equation_lines (equations_of ts)) + length (formula_text (violation tests))

statements-short : (S : ℕ) (seen : Seen) (ts : List Stmt) → StmtsOk S seen ts
    → letters ts (asserted ts) ≤ 61 * length (records_bytes stmt_bytes ts) + 5
unfolding violation
statements-short S seen [] o = omega arith
statements-short S seen (Assign p x e ∷ ts) o = go (has_assert ts) (statements-short S (see seen (Assign p x e)) ts o.1)
  where
    here : length (declaration x) + length (equation_line x (expr_term e)) ≤ 61 * length (record_bytes stmt_bytes (Assign p x e))
    here =
        omega (
          arith,
          declaration-length x,
          equation_length x (expr_term e),
          ten_digits x,
          expr-short seen.readable e o.0.3,
          assign-bytes p x e,
        )

    more : letters (Assign p x e ∷ ts) [] + 61 * length (records_bytes stmt_bytes ts)
        ≤ letters ts [] + 61 * length (records_bytes stmt_bytes (Assign p x e ∷ ts))
    more =
        omega (
          arith,
          here,
          length-append (declaration x) (declarations (assigned ts)),
          length-append (equation_line x (expr_term e)) (equation_lines (equations_of ts)),
          length-append (record_bytes stmt_bytes (Assign p x e)) (records_bytes stmt_bytes ts),
        )

    go : (b : Bool) → letters ts (asserted ts) ≤ 61 * length (records_bytes stmt_bytes ts) + 5
        → letters (Assign p x e ∷ ts) (cond b (Assign p x e ∷ asserted ts) [])
        ≤ 61 * length (records_bytes stmt_bytes (Assign p x e ∷ ts)) + 5
    go true ih = omega (arith, more)
    go false ih = omega (arith, more, formula_long (violation (asserted ts)))
statements-short S seen (Test k p e ∷ ts) o = go (has_assert (Test k p e ∷ ts)) (statements-short S seen ts o.1)
  where
    more : length (formula_text (tested k e (violation (asserted ts)))) + 61 * length (records_bytes stmt_bytes ts)
        ≤ length (formula_text (violation (asserted ts))) + 61 * length (records_bytes stmt_bytes (Test k p e ∷ ts))
    more =
        omega (
          arith,
          tested-short k e (violation (asserted ts)),
          expr-short seen.readable e o.0.2,
          test-bytes k p e,
          length-append (record_bytes stmt_bytes (Test k p e)) (records_bytes stmt_bytes ts),
        )

    go : (b : Bool) → letters ts (asserted ts) ≤ 61 * length (records_bytes stmt_bytes ts) + 5
        → letters (Test k p e ∷ ts) (cond b (Test k p e ∷ asserted ts) []) ≤ 61 * length (records_bytes stmt_bytes (Test k p e ∷ ts)) + 5
    go true ih = omega (arith, more)
    go false ih =
        omega (
          arith,
          formula_long (violation (asserted ts)),
          length-append (record_bytes stmt_bytes (Test k p e)) (records_bytes stmt_bytes ts),
        )

-- fewer inputs have fewer letters
inputs_short : (x n m : ℕ) (ys : List ℕ) → n ≤ m
    → length (declarations (numbers_from x n ++ ys)) ≤ length (declarations (numbers_from x m)) + length (declarations ys)
inputs_short x zero m ys h = omega arith
inputs_short x (suc n) zero ys h = absurd (omega arith)
inputs_short x (suc n) (suc m) ys h =
    omega (
      arith,
      length-append (declaration x) (declarations (numbers_from (suc x) n ++ ys)),
      length-append (declaration x) (declarations (numbers_from (suc x) m)),
      inputs_short (suc x) n m ys (omega arith),
    )

all-inputs : length (declarations (numbers_from 0 input_room)) ≡ 2166
unfolding input_room decimal
all-inputs = refl

text-length : (S : ℕ) (ts : List Stmt) → length (script_text S ts) ≡ length (declarations (numbers_from 0 S ++ assigned ts))
    + length (equation_lines (equations_of ts)) + length (formula_text (violation (asserted ts))) + 40
unfolding script_text script_of
text-length S ts =
    let D = declarations (numbers_from 0 S ++ assigned ts) in
    let Q = equation_lines (equations_of ts) in
    let F = formula_text (violation (asserted ts)) in
    let a = length-append (ascii "(set-logic QF_BV)\n" ++ D ++ Q ++ ascii "(assert\n" ++ F) (ascii ")\n(check-sat)\n") in
    let b = length-append (ascii "(set-logic QF_BV)\n" ++ D ++ Q ++ ascii "(assert\n") F in
    let c = length-append (ascii "(set-logic QF_BV)\n" ++ D ++ Q) (ascii "(assert\n") in
    let d = length-append (ascii "(set-logic QF_BV)\n" ++ D) Q in
    omega arith

pub script_short : (s : List ℕ) (head : Head) (ts : List Stmt) → All Byte s → read_trace s ≡ Accepted head ts
    → length (script_text head.inputs ts) ≤ 61 * length s + 1845
script_short s head ts o is =
    let S = head.inputs in
    let t = trace_ok s head ts o is in
    omega (
      arith,
      text-length S ts,
      inputs_short 0 S input_room (assigned ts) t.inputs,
      all-inputs,
      statements-short S (at_first head) ts t.ok,
      ap length (encode-read s head ts o is),
      encode-length stmt_bytes head ts,
      head-long head.version,
    )

-- and some script is as long: that of 64 inputs and no statement, whose trace has six bytes
longest : length (script_text 64 []) ≡ 61 * 6 + 1845
unfolding script_text script_of violation decimal
longest = refl

-- so where there is room for four million letters, no room is asked for
pub script_room : (s : List ℕ) (room : ℕ) → All Byte s → 4000000 ≤ room → (script_answer s room).reply ≡ 10 → ⊥
unfolding script_answer script_text
script_room s room o h ten = go (read_trace s) refl
  where
    go : (i : Input Stmt) → read_trace s ≡ i → ⊥
    go (Refused r at) e = omega (arith, trace_refused-low s r at e, ap (λ i. (answered room i).reply) e)
    go (Accepted head ts) e =
        omega (arith, script_done s head ts e room (omega (arith, script_short s head ts o e, trace_short s head ts o e)))
