-- How long a text can be: no token, line or header has more letters than six for each of its bytes in a trace, so 6 × 65,535 hold every
-- text that is printed.
use Rattle.std.specs.Prelude.{ℕ, ◌+◌, ◌*◌, ◌≤◌, ◌<◌, ◌≡◌, refl, List, [], ◌∷◌, ◌++◌, length}
use Rattle.std.proofs.Common.{arith, ap, length-append}
use Rattle.std.proofs.Math.Decide.{dec_lt}
use Rattle.expr.specs.declared.File.TheVariants.{Trace}
use Rattle.expr.specs.Lists.{All}
use Rattle.expr.specs.Number.{Byte, bytes_of}
use Rattle.expr.specs.NumberLaws.{bytes_of-length}
use Rattle.expr.specs.declared.word.Unary.{Unary}
use Rattle.expr.specs.declared.word.Unary.TheVariants.{Not, Neg, Zero}
use Rattle.expr.specs.declared.word.Binary.{Binary}
use Rattle.expr.specs.declared.word.Binary.TheVariants.{Add, Sub, Mul, Udiv, Urem, And, Or, Xor, Shl, Lshr, Equal, Ult, Ule, Slt}
use Rattle.expr.specs.declared.token.Token.{Token}
use Rattle.expr.specs.declared.token.Token.TheVariants.{Const, Symbol, Un, Bin, Ite}
use Rattle.expr.specs.Token.{token_bytes, expr_bytes}
use Rattle.file.specs.Outcome.{Kind, Assume, Assert, Bound}
use Rattle.file.specs.File.{Head, input_room, Input, Accepted, Refused, record_bytes, records_bytes}
use Rattle.file.proofs.FileLaws.{head-long}
use Rattle.file.proofs.EncodeLaws.{encode-length}
use Rattle.table.specs.Table.{Instr, read_table}
use Rattle.table.specs.TableLaws.{table-ok}
use Rattle.trace.specs.Trace.{Stmt, Assign, Test, stmt_bytes, trace_head, encode_trace}
use Rattle.unwind.specs.Unwind.{unwind}
use Rattle.slice.specs.Slice.{slice}
use Rattle.slice.proofs.SliceLaws.{slice_fits}
use Rattle.write.specs.Ascii.{ascii}
use Rattle.write.specs.Decimal.{decimal}
use Rattle.write.specs.DecimalLaws.{ten_digits, two_digits}
use Rattle.show.specs.Text.{unary_name, binary_name, token_text, expr_text, kind_name, stmt_line, stmt_lines}
use Rattle.write.specs.Decimal.{decimal}
use Rattle.show.specs.Text.{first_line, slice_text, refusal_text, printed}
use Rattle.show.specs.TextLaws.{prints_refusal, prints_nine, prints_slice}

-- ---- tokens and lines

unary-small : (o : Unary) → length (ascii (unary_name o)) ≤ 5
unary-small Not = omega arith
unary-small Neg = omega arith
unary-small Zero = omega arith

binary-small : (o : Binary) → length (ascii (binary_name o)) ≤ 5
binary-small Add = omega arith
binary-small Sub = omega arith
binary-small Mul = omega arith
binary-small Udiv = omega arith
binary-small Urem = omega arith
binary-small And = omega arith
binary-small Or = omega arith
binary-small Xor = omega arith
binary-small Shl = omega arith
binary-small Lshr = omega arith
binary-small Equal = omega arith
binary-small Ult = omega arith
binary-small Ule = omega arith
binary-small Slt = omega arith

token-small : (t : Token) → 1 + length (token_text t) ≤ 6 * length (token_bytes Trace t)
token-small (Const n) = omega (arith, ten_digits n, bytes_of-length 4 n)
token-small (Symbol s) = omega (arith, ten_digits s, bytes_of-length 2 s)
token-small (Un o) = omega (arith, unary-small o)
token-small (Bin o) = omega (arith, binary-small o)
token-small Ite = omega arith

expr-small : (e : List Token) → length (expr_text e) ≤ 6 * length (expr_bytes Trace e)
expr-small [] = omega arith
expr-small (t ∷ e) =
    omega (
      arith,
      length-append (token_text t) (expr_text e),
      length-append (token_bytes Trace t) (expr_bytes Trace e),
      token-small t,
      expr-small e,
    )

kind-small : (k : Kind) → length (ascii (kind_name k)) ≤ 6
kind-small Assume = omega arith
kind-small Assert = omega arith
kind-small Bound = omega arith

line_small : (t : Stmt) → length (stmt_line t) ≤ 6 * length (record_bytes stmt_bytes t)
line_small (Assign p x e) =
    let a = length-append (decimal p ++ ascii " assign s" ++ decimal x ++ expr_text e) (ascii "\n") in
    let b = length-append (decimal p ++ ascii " assign s" ++ decimal x) (expr_text e) in
    let c = length-append (decimal p ++ ascii " assign s") (decimal x) in
    let d = length-append (decimal p) (ascii " assign s") in
    let f = length-append (bytes_of 2 (length (stmt_bytes (Assign p x e)))) (stmt_bytes (Assign p x e)) in
    let g = length-append (1 ∷ bytes_of 2 p ++ bytes_of 2 x) (expr_bytes Trace e) in
    let h = length-append (bytes_of 2 p) (bytes_of 2 x) in
    omega (
      arith,
      ten_digits p,
      ten_digits x,
      expr-small e,
      bytes_of-length 2 p,
      bytes_of-length 2 x,
      bytes_of-length 2
          (length (stmt_bytes (Assign p x e))),
    )
line_small (Test k p e) =
    let a = length-append (decimal p ++ ascii " " ++ ascii (kind_name k) ++ expr_text e) (ascii "\n") in
    let b = length-append (decimal p ++ ascii " " ++ ascii (kind_name k)) (expr_text e) in
    let c = length-append (decimal p ++ ascii " ") (ascii (kind_name k)) in
    let d = length-append (decimal p) (ascii " ") in
    let f = length-append (bytes_of 2 (length (stmt_bytes (Test k p e)))) (stmt_bytes (Test k p e)) in
    let g = length-append (bytes_of 2 p) (expr_bytes Trace e) in
    omega (arith, ten_digits p, kind-small k, expr-small e, bytes_of-length 2 p, bytes_of-length 2 (length (stmt_bytes (Test k p e))))

lines_small : (ts : List Stmt) → length (stmt_lines ts) ≤ 6 * length (records_bytes stmt_bytes ts)
lines_small [] = omega arith
lines_small (t ∷ ts) =
    omega (
      arith,
      length-append (stmt_line t) (stmt_lines ts),
      length-append (record_bytes stmt_bytes t) (records_bytes stmt_bytes ts),
      line_small t,
      lines_small ts,
    )

-- ---- whole texts

first_small : (S n : ℕ) → S ≤ input_room → length (first_line S n) ≤ 36
unfolding input_room
first_small S n h =
    let a = length-append (ascii "inputs " ++ decimal S ++ ascii " statements " ++ decimal n) (ascii "\n") in
    let b = length-append (ascii "inputs " ++ decimal S ++ ascii " statements ") (decimal n) in
    let c = length-append (ascii "inputs " ++ decimal S) (ascii " statements ") in
    let d = length-append (ascii "inputs ") (decimal S) in
    omega (arith, two_digits S (omega arith), ten_digits n)

text-small : (head : Head) (ts : List Stmt) → head.inputs ≤ input_room
    → length (slice_text head.inputs ts) ≤ 6 * length (encode_trace head ts)
text-small head ts h =
    omega (
      arith,
      length-append (first_line head.inputs (length ts)) (stmt_lines ts),
      first_small head.inputs (length ts) h,
      lines_small ts,
      encode-length stmt_bytes head ts,
      head-long head.version,
    )

refusal-small : (reply offset : ℕ) → length (refusal_text reply offset) ≤ 33
refusal-small reply offset =
    let a = length-append (ascii "refused " ++ decimal reply ++ ascii " at " ++ decimal offset) (ascii "\n") in
    let b = length-append (ascii "refused " ++ decimal reply ++ ascii " at ") (decimal offset) in
    let c = length-append (ascii "refused " ++ decimal reply) (ascii " at ") in
    let d = length-append (ascii "refused ") (decimal reply) in
    omega (arith, ten_digits reply, ten_digits offset)

-- 6 × 65,535
pub printed-small : (input : List ℕ) → All Byte input → length (printed input) ≤ 393210
unfolding printed
printed-small [] o = omega (arith, refusal-small 1 0)
printed-small (K ∷ b) o = go (read_table b) refl
  where
    go : (x : Input Instr) → read_table b ≡ x → length (printed (K ∷ b)) ≤ 393210
    go (Refused r at) e = omega (arith, ap length (prints_refusal K b r at e), refusal-small r at)
    go (Accepted head is) e = limits (dec_lt 4096 (length (unwind Bound S is K)))
        (dec_lt 65535 (length (encode_trace (trace_head S) (unwind Bound S is K))))
      where
        S : ℕ
        S = head.inputs

        limits : Dec (4096 < length (unwind Bound S is K)) → Dec (65535 < length (encode_trace (trace_head S) (unwind Bound S is K)))
            → length (printed (K ∷ b)) ≤ 393210
        limits (yes h) d =
            omega (arith, ap length (prints_nine K b head is e (omega (arith, o.0)) (λ l. omega (arith, l.0))), refusal-small 9 0)
        limits (no h) (yes k) =
            omega (arith, ap length (prints_nine K b head is e (omega (arith, o.0)) (λ l. omega (arith, l.1))), refusal-small 9 0)
        limits (no h) (no k) =
            let ts = unwind Bound S is K in
            omega (
              arith,
              ap length (prints_slice K b head is e (omega (arith, o.0)) o.1 (omega arith) (omega arith)),
              text-small (trace_head S) (slice ts) (table-ok b head is o.1 e).inputs,
              slice_fits (trace_head S) ts,
            )
