-- How many bytes a trace has, from its table and the bound: known before the first byte is written.
use Rattle.std.specs.Prelude.{ℕ, suc, ◌+◌, ◌*◌, Bool, true, false, cond, ◌&&◌, List, [], ◌∷◌, length, leb}
use Rattle.expr.specs.declared.File.TheVariants.{Trace}
use Rattle.expr.specs.declared.token.Token.{Token}
use Rattle.expr.specs.Token.{expr_bytes}
use Rattle.file.specs.File.{head_size}
use Rattle.trace.specs.Trace.{trace_version}
use Rattle.table.specs.Table.{Instr, Assign, Test, IfThenGoto}

-- the bytes of an expression in a trace, whatever its symbols are called
abbrev pub expr_size : List Token → ℕ
expr_size e = length (expr_bytes Trace e)

-- the bytes of the record of instruction i; in the last copy a back jump is a test
abbrev pub instr_size : (last : Bool) (i : ℕ) → Instr → ℕ
instr_size last i (Assign s e) = 20 + expr_size e
instr_size last i (Test k e) = 20 + expr_size e
instr_size last i (IfThenGoto t e) = cond (last && leb t i) 21 29 + expr_size e

-- of a copy from instruction i on, with its exit
abbrev pub copy_size : (last : Bool) (i : ℕ) → List Instr → ℕ
copy_size last i [] = 25
copy_size last i (x ∷ xs) = instr_size last i x + copy_size last (suc i) xs

-- the header, the opening and all copies
abbrev pub trace_size : List Instr → (K : ℕ) → ℕ
trace_size is K = head_size trace_version + (12 + (K * copy_size false 0 is + copy_size true 0 is))
