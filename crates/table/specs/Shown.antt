-- What the code's values mean: its answers as functions of the definitions.
use Rattle.std.specs.Prelude.{ℕ, ◌+◌, cond, List, drop, get_or, eqb, Result, Ok, Err}
use Rattle.expr.specs.Number.{number_of}
use Rattle.expr.specs.declared.token.Token.{Token}
use Rattle.expr.specs.Eval.{Env, value}
use Rattle.file.specs.Outcome.{Failed, Lost}
use Rattle.file.specs.File.{Body, Good, Bad}
use Rattle.file.specs.Shown as File
use Rattle.file.specs.Shown.{reply_of, outcome_of, kind_of, rest_of, file_count, ReadFile}
use Rattle.file.specs.declared.Failure.{Failure}
use Rattle.file.specs.declared.Refusal as Refused
use Rattle.file.specs.declared.Unread.{Unread}
use Rattle.table.specs.declared.Answer.{Answer}
use Rattle.table.specs.declared.read.Action.{Action}
use Rattle.table.specs.declared.read.Action.TheVariants as A
use Rattle.table.specs.declared.steps.Ran as Code
use Rattle.table.specs.declared.steps.Spot.{Spot}
use Rattle.table.specs.Table.{Instr, Assign, Test, IfThenGoto, instr, is_table, read_table}
use Rattle.table.specs.Run.{Next, Halt, Go, Ran, step}
use Rattle.table.specs.Answer.{refusal, answer_of}

-- ---- reading

-- the reading of the n records after a table's header
abbrev pub ReadRecords : (table : List ℕ) (S n : ℕ) (before after : List ℕ) → Result ℕ Unread → Type 0
ReadRecords table S n before after r = File.ReadRecords {St = Unit {0}} (λ u. instr S n) (λ u a. u) table n tt before after r

-- of a table's records, how many are read before the first refusal
abbrev pub instr_count : (table : List ℕ) → ℕ
instr_count table = file_count {St = Unit {0}} is_table 1024 (λ head n u. instr head.inputs n) (λ u a. u) (λ head. tt) table

-- the reading of a table
abbrev pub ReadTable : (table before after : List ℕ) → Result ℕ Unread → Type 0
ReadTable table before after r = ReadFile (read_table table) (instr_count table) table before after r

-- a table that is accepted, with its n records' offsets stored
abbrev pub Ready : (table offsets : List ℕ) (n : ℕ) → Type 0
Ready table offsets n = File.Ready (read_table table) table offsets n

-- ---- running

-- what the code's step leads to, with the values that it leaves
abbrev pub next_of : Result Spot Failure → Env → Next
next_of (Ok s) ρ = Go s.i s.r ρ
next_of (Err f) ρ = Halt (Failed f.kind f.place)

-- the code's run
abbrev pub ran_of : Code.Ran → Ran
ran_of q = record { outcome = outcome_of q.end; back_jumps = q.back_jumps }

-- and what is answered
abbrev pub answer_in : Result Code.Ran Refused.Refusal → Answer
answer_in (Ok q) = answer_of (ran_of q)
answer_in (Err f) = refusal (reply_of f.reason) f.offset

-- where the expression begins in a record, by its kind's code
abbrev pub expr_start : (code : ℕ) → ℕ
expr_start k = cond (eqb k 1) 4 (cond (eqb k 4) 5 3)

-- the bytes of the expression in the record at an offset
abbrev pub expr_part : (table : List ℕ) (at : ℕ) → List ℕ
expr_part table at = rest_of table at (expr_start (get_or table (at + 2) 0))

-- what the instruction in the record at an offset does
abbrev pub action_at : (table : List ℕ) (at : ℕ) → Action
action_at table at =
    cond (eqb (get_or table (at + 2) 0) 1) (A.Assign (number_of 1 (drop (at + 3) table)))
    (cond (eqb (get_or table (at + 2) 0) 4) (A.Goto (number_of 2 (drop (at + 3) table)))
    (A.Test (kind_of (get_or table (at + 2) 0))))

abbrev pub action_of : Instr → Action
action_of (Assign s e) = A.Assign s
action_of (Test k e) = A.Test k
action_of (IfThenGoto t e) = A.Goto t

abbrev pub expr_of : Instr → List Token
expr_of (Assign s e) = e
expr_of (Test k e) = e
expr_of (IfThenGoto t e) = e

-- the value of the expression that a record holds
abbrev pub value_in : Body Instr → Env → ℕ
value_in (Good x) ρ = value ρ (expr_of x)
value_in (Bad r) ρ = 0

-- the step of the instruction that a record holds
abbrev pub step_body : (n K i r : ℕ) → Body Instr → Env → Next
step_body n K i r (Good x) ρ = step n K i r x ρ
step_body n K i r (Bad reply) ρ = Halt Lost
