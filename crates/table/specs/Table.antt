-- Document 01, "Table and trace bytes": a table's instructions, and the reading of any bytes as a table.
use Rattle.std.specs.Prelude.{ℕ, Bool, cond, List, [], ◌∷◌, eqb, leb, ltb}
use Rattle.expr.specs.declared.File.TheVariants.{Table}
use Rattle.expr.specs.declared.token.Token.{Token}
use Rattle.expr.specs.Expr.{below, parse}
use Rattle.file.specs.Outcome.{Kind, Assume, Assert}
use Rattle.file.specs.File.{Head, AtRecord, Body, Bad, field, rule, holding, Records, records, Input, read_file}

pub data Instr : Type 0 where
  Assign : (symbol : ℕ) → List Token → Instr
  Test : Kind → List Token → Instr
  IfThenGoto : (target : ℕ) → List Token → Instr

-- ---- what follows a record's kind, in a table of S inputs and n instructions

-- a symbol below S, and an expression
abbrev pub assign : (S s : ℕ) → List ℕ → Body Instr
assign S s bs = rule (ltb s S) (holding (Assign s) (parse Table (below S) bs))

abbrev pub test : (S : ℕ) → Kind → List ℕ → Body Instr
test S k bs = holding (Test k) (parse Table (below S) bs)

-- a target 0 to n, and an expression
abbrev pub if_then_goto : (S n t : ℕ) → List ℕ → Body Instr
if_then_goto S n t bs = rule (leb t n) (holding (IfThenGoto t) (parse Table (below S) bs))

-- the bytes after a record's length
unfoldable pub instr : (S n : ℕ) → List ℕ → Body Instr
instr S n [] = Bad (AtRecord 5)
instr S n (kind ∷ bs) =
    cond (eqb kind 1) (field 1 bs (assign S))
    (cond (eqb kind 2) (test S Assume bs)
    (cond (eqb kind 3) (test S Assert bs)
    (cond (eqb kind 4) (field 2 bs (if_then_goto S n))
    (Bad (AtRecord 5)))))

-- c of the n instructions, and nothing after them
abbrev pub instrs_from : (S n c : ℕ) → List ℕ → Records Instr
instrs_from S n c bs = records {St = Unit {0}} (λ u. instr S n) (λ u a. u) c tt bs

abbrev pub instrs : (head : Head) (n : ℕ) → List ℕ → Records Instr
instrs head n bs = instrs_from head.inputs n n bs

-- the version of a table is 1
unfoldable pub is_table : (version : ℕ) → Bool
is_table version = eqb version 1

-- at most 1,024 instructions
unfoldable pub read_table : List ℕ → Input Instr
read_table bs = read_file is_table 1024 instrs bs
