-- Document 01, "A small rule, worked": the text that the slice printer gives, for every input.
use Rattle.std.specs.Prelude.{ℕ, cond, List, [], ◌∷◌, ◌++◌, length, eqb}
use Prim.Native.String.{String}
use Rattle.expr.specs.declared.word.Unary.{Unary}
use Rattle.expr.specs.declared.word.Unary.TheVariants.{Not, Neg, Zero}
use Rattle.expr.specs.declared.word.Binary.{Binary}
use Rattle.expr.specs.declared.word.Binary.TheVariants.{Add, Sub, Mul, Udiv, Urem, And, Or, Xor, Shl, Lshr, Equal, Ult, Ule, Slt}
use Rattle.expr.specs.declared.token.Token.{Token}
use Rattle.expr.specs.declared.token.Token.TheVariants.{Const, Symbol, Un, Bin, Ite}
use Rattle.file.specs.Outcome.{Kind, Assume, Assert, Bound}
use Rattle.file.specs.File.{Input, Accepted, Refused}
use Rattle.trace.specs.Trace.{Stmt, Assign, Test, read_trace}
use Rattle.unwind.specs.Answer.{Traced, trace_answer}
use Rattle.slice.specs.Answer.{Sliced, slice_answer}
use Rattle.write.specs.Ascii.{ascii}
use Rattle.write.specs.Decimal.{decimal}

-- ---- tokens by name, symbols as s and the number, constants in decimal

abbrev pub unary_name : Unary → String
unary_name Not = "not"
unary_name Neg = "neg"
unary_name Zero = "zero"

abbrev pub binary_name : Binary → String
binary_name Add = "add"
binary_name Sub = "sub"
binary_name Mul = "mul"
binary_name Udiv = "udiv"
binary_name Urem = "urem"
binary_name And = "and"
binary_name Or = "or"
binary_name Xor = "xor"
binary_name Shl = "shl"
binary_name Lshr = "lshr"
binary_name Equal = "equal"
binary_name Ult = "ult"
binary_name Ule = "ule"
binary_name Slt = "slt"

abbrev pub token_text : Token → List ℕ
token_text (Const n) = decimal n
token_text (Symbol s) = ascii "s" ++ decimal s
token_text (Un o) = ascii (unary_name o)
token_text (Bin o) = ascii (binary_name o)
token_text Ite = ascii "ite"

-- each token after a space
abbrev pub expr_text : List Token → List ℕ
expr_text [] = []
expr_text (t ∷ e) = ascii " " ++ token_text t ++ expr_text e

-- ---- lines

abbrev pub kind_name : Kind → String
kind_name Assume = "assume"
kind_name Assert = "assert"
kind_name Bound = "bound"

-- place, kind, the assigned symbol for an assign, then the tokens
abbrev pub stmt_line : Stmt → List ℕ
stmt_line (Assign p x e) = decimal p ++ ascii " assign s" ++ decimal x ++ expr_text e ++ ascii "\n"
stmt_line (Test k p e) = decimal p ++ ascii " " ++ ascii (kind_name k) ++ expr_text e ++ ascii "\n"

abbrev pub stmt_lines : List Stmt → List ℕ
stmt_lines [] = []
stmt_lines (t ∷ ts) = stmt_line t ++ stmt_lines ts

-- S and the statement count
abbrev pub first_line : (S n : ℕ) → List ℕ
first_line S n = ascii "inputs " ++ decimal S ++ ascii " statements " ++ decimal n ++ ascii "\n"

-- and then a line for each statement
abbrev pub slice_text : (S : ℕ) → List Stmt → List ℕ
slice_text S ts = first_line S (length ts) ++ stmt_lines ts

abbrev pub refusal_text : (reply offset : ℕ) → List ℕ
refusal_text reply offset = ascii "refused " ++ decimal reply ++ ascii " at " ++ decimal offset ++ ascii "\n"

-- ---- the whole output

abbrev pub trace_text : Input Stmt → List ℕ
trace_text (Accepted head ts) = slice_text head.inputs ts
trace_text (Refused reply offset) = refusal_text reply offset

-- the slice of the trace, into room enough for every one; slicing a written trace refuses nothing
abbrev pub sliced_text : Sliced → List ℕ
sliced_text q = cond (eqb q.reply 0) (trace_text (read_trace q.bytes)) (refusal_text q.reply q.offset)

abbrev pub traced_text : Traced → List ℕ
traced_text t = cond (eqb t.reply 0) (sliced_text (slice_answer t.bytes 65535)) (refusal_text t.reply t.offset)

-- K as one byte, then the table; input without even the byte K is refused 1 at 0
unfoldable pub printed : (input : List ℕ) → List ℕ
printed [] = refusal_text 1 0
printed (K ∷ table) = traced_text (trace_answer table K 65535)
