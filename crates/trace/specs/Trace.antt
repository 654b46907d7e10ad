-- Document 01, "Table and trace bytes": a trace's statements, the reading of any bytes as a trace, and its writing.
use Rattle.std.specs.Prelude.{ℕ, suc, ◌+◌, Bool, false, cond, ◌&&◌, ◌||◌, List, [], ◌∷◌, ◌++◌, eqb, leb, ltb}
use Rattle.expr.specs.declared.File.TheVariants.{Trace}
use Rattle.expr.specs.Number.{bytes_of}
use Rattle.expr.specs.declared.token.Token.{Token}
use Rattle.expr.specs.Token.{expr_bytes}
use Rattle.expr.specs.Expr.{below, parse}
use Rattle.expr.specs.Eval.{reads}
use Rattle.file.specs.Outcome.{Kind, Assume, Assert, Bound}
use Rattle.file.specs.File.{Head, AtRecord, Body, Bad, field, rule, holding, Records, records, Input, read_file, encode}

pub data Stmt : Type 0 where
  Assign : (place symbol : ℕ) → List Token → Stmt
  Test : Kind → (place : ℕ) → List Token → Stmt

-- ---- versions

-- 130 is written; 129, in which the bound's tests are Assumes, is still read
unfoldable pub trace_version : ℕ
trace_version = 130

unfoldable pub old_version : ℕ
old_version = 129

unfoldable pub is_trace : (version : ℕ) → Bool
is_trace version = eqb version trace_version || eqb version old_version

-- the bound's tests have a kind of their own
unfoldable pub tells_bound : (version : ℕ) → Bool
tells_bound version = eqb version trace_version

-- ---- statements

-- what the version and the statements before a statement allow: the symbols that may be read, the least that may be assigned, the bound's
-- kind
pub record Seen : Type 0 where
  pub readable : ℕ → Bool
  pub least : ℕ
  pub bounds : Bool

-- at first inputs may be read, and an assigned symbol is at least S
abbrev pub at_first : (head : Head) → Seen
at_first head = record { readable = below head.inputs; least = head.inputs; bounds = tells_bound head.version }

-- an assigned symbol may be read by later statements, and the next one is greater
abbrev pub see : Seen → Stmt → Seen
see σ (Assign p x e) = record { readable = λ y. eqb y x || σ.readable y; least = suc x; bounds = σ.bounds }
see σ (Test k p e) = σ

-- ---- what follows a record's kind; assigned symbols are below `top`

abbrev pub assign : (top : ℕ) (σ : Seen) (p x : ℕ) → List ℕ → Body Stmt
assign top σ p x bs = rule (leb σ.least x && ltb x top) (holding (Assign p x) (parse Trace σ.readable bs))

abbrev pub assign_at : (top : ℕ) (σ : Seen) (p : ℕ) → List ℕ → Body Stmt
assign_at top σ p bs = field 2 bs (assign top σ p)

abbrev pub test_at : (σ : Seen) → Kind → (p : ℕ) → List ℕ → Body Stmt
test_at σ k p bs = holding (Test k p) (parse Trace σ.readable bs)

-- the bytes after a record's length
unfoldable pub stmt : (top : ℕ) → Seen → List ℕ → Body Stmt
stmt top σ [] = Bad (AtRecord 5)
stmt top σ (kind ∷ bs) =
    cond (eqb kind 1) (field 2 bs (assign_at top σ))
    (cond (eqb kind 2) (field 2 bs (test_at σ Assume))
    (cond (eqb kind 3) (field 2 bs (test_at σ Assert))
    (cond (σ.bounds && eqb kind 4) (field 2 bs (test_at σ Bound))
    (Bad (AtRecord 5)))))

-- c of the statements, and nothing after them
abbrev pub stmts_from : (S c : ℕ) → Seen → List ℕ → Records Stmt
stmts_from S c σ bs = records (stmt (S + 4096)) see c σ bs

abbrev pub stmts : (head : Head) (n : ℕ) → List ℕ → Records Stmt
stmts head n bs = stmts_from head.inputs n (at_first head) bs

-- at most 4,096 statements
unfoldable pub read_trace : List ℕ → Input Stmt
read_trace bs = read_file is_trace 4096 stmts bs

-- ---- writing

abbrev pub kind_code : Kind → ℕ
kind_code Assume = 2
kind_code Assert = 3
kind_code Bound = 4

abbrev pub stmt_bytes : Stmt → List ℕ
stmt_bytes (Assign p x e) = 1 ∷ bytes_of 2 p ++ bytes_of 2 x ++ expr_bytes Trace e
stmt_bytes (Test k p e) = kind_code k ∷ bytes_of 2 p ++ expr_bytes Trace e

-- a trace of S inputs that is written anew
abbrev pub trace_head : (S : ℕ) → Head
trace_head S = record { version = trace_version; inputs = S }

abbrev pub encode_trace : (head : Head) → List Stmt → List ℕ
encode_trace head ts = encode stmt_bytes head ts

-- ---- the symbols that are read

-- a statement of the trace reads x
abbrev pub reads_trace : (x : ℕ) → List Stmt → Bool
reads_trace x [] = false
reads_trace x (Assign p y e ∷ ts) = reads x e || reads_trace x ts
reads_trace x (Test k p e ∷ ts) = reads x e || reads_trace x ts
