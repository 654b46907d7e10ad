-- What the code's values mean: its answers as functions of the definitions.
use Rattle.std.specs.Prelude.{ℕ, zero, suc, ◌+◌, ◌≤◌, Bool, true, false, cond, ◌||◌, List, length, drop, get_or, replicate, eqb}
use Rattle.std.specs.Prelude.{Result, Ok, Err}
use Rattle.expr.specs.Number.{number_of}
use Rattle.expr.specs.declared.token.Token.{Token}
use Rattle.expr.specs.Expr.{below, readable}
use Rattle.expr.specs.Eval.{Env, update, value}
use Rattle.expr.specs.Word.{truthy}
use Rattle.file.specs.Outcome.{Kind, Assume, Assert, Bound, Outcome, Lost, Failed}
use Rattle.file.specs.File.{Body, Good, Bad, record_of}
use Rattle.file.specs.Shown as File
use Rattle.file.specs.Shown.{reply_of, outcome_of, rest_of, file_count, ReadFile}
use Rattle.file.specs.declared.Failure.{Failure}
use Rattle.file.specs.declared.Refusal as Refused
use Rattle.file.specs.declared.Unread.{Unread}
use Rattle.trace.specs.declared.Answer.{Answer}
use Rattle.trace.specs.declared.read.Action.{Action}
use Rattle.trace.specs.declared.read.Action.TheVariants as A
use Rattle.trace.specs.declared.read.Seen as Code
use Rattle.trace.specs.Trace.{Stmt, Assign, Test, Seen, at_first, see, stmt, is_trace, read_trace}
use Rattle.trace.specs.Answer.{refusal, answer_of}

-- ---- reading

-- room for the symbols of any trace, its inputs and 4,096 assigned ones
unfoldable pub symbol_room : ℕ
symbol_room = 4160

-- the state that the code keeps: the symbols assigned as an array, and the least that may be assigned
abbrev pub seen : (S least : ℕ) (assigned : List Bool) (bounds : Bool) → Seen
seen S l assigned b = record { readable = readable S assigned; least = l; bounds = b }

abbrev pub seen_in : Code.Seen → Seen
seen_in v = seen v.inputs v.least v.assigned v.bounds

-- before the first statement
abbrev pub first_seen : (S : ℕ) (bounds : Bool) → Code.Seen
first_seen S b = record { inputs = S; least = S; assigned = replicate symbol_room false; bounds = b }

abbrev pub unseen : (S : ℕ) (bounds : Bool) → Seen
unseen S b = record { readable = below S; least = S; bounds = b }

-- whether a test's code is known
abbrev pub known_test : (bounds : Bool) (code : ℕ) → Bool
known_test b k = cond (eqb k 4) b (eqb k 2 || eqb k 3)

-- a test's kind by its code
abbrev pub test_kind : (code : ℕ) → Kind
test_kind k = cond (eqb k 3) Assert (cond (eqb k 4) Bound Assume)

-- the reading of the n records after a trace's header
abbrev pub ReadRecords : (trace : List ℕ) (S : ℕ) (bounds : Bool) (n : ℕ) (before after : List ℕ) → Result ℕ Unread → Type 0
ReadRecords trace S b n before after r = File.ReadRecords (stmt (S + 4096)) see trace n (unseen S b) before after r

-- of a trace's records, how many are read before the first refusal
abbrev pub stmt_count : (trace : List ℕ) → ℕ
stmt_count trace = file_count is_trace 4096 (λ head n. stmt (head.inputs + 4096)) see at_first trace

-- the reading of a trace
abbrev pub ReadTrace : (trace before after : List ℕ) → Result ℕ Unread → Type 0
ReadTrace trace before after r = ReadFile (read_trace trace) (stmt_count trace) trace before after r

-- a trace that is accepted, with its n records' offsets stored
abbrev pub Ready : (trace offsets : List ℕ) (n : ℕ) → Type 0
Ready trace offsets n = File.Ready (read_trace trace) trace offsets n

-- n whole records stand one after the other, from an offset on
abbrev pub Stand : (n : ℕ) (trace : List ℕ) (at : ℕ) → Type 0
Stand zero s at = Unit {0}
Stand (suc n) s at = (at + (2 + number_of 2 (drop at s)) ≤ length s) × Stand n s (at + (2 + number_of 2 (drop at s)))

-- ---- judging

-- what every accepted statement keeps to
abbrev pub loose : Seen
loose = record { readable = below symbol_room; least = 0; bounds = true }

abbrev pub held : List ℕ → Body Stmt
held bs = record_of (stmt symbol_room loose) bs

-- where the expression begins in a record, by its kind's code
abbrev pub expr_start : (code : ℕ) → ℕ
expr_start k = cond (eqb k 1) 7 5

-- the bytes of the expression in the record at an offset
abbrev pub expr_part : (trace : List ℕ) (at : ℕ) → List ℕ
expr_part trace at = rest_of trace at (expr_start (get_or trace (at + 2) 0))

-- what the statement in the record at an offset does
abbrev pub action_at : (trace : List ℕ) (at : ℕ) → Action
action_at trace at =
    cond (eqb (get_or trace (at + 2) 0) 1) (A.Assign (number_of 2 (drop (at + 5) trace))) (A.Test (test_kind (get_or trace (at + 2) 0)))

abbrev pub expr_of : Stmt → List Token
expr_of (Assign p x e) = e
expr_of (Test k p e) = e

abbrev pub value_in : Body Stmt → Env → ℕ
value_in (Good x) σ = value σ (expr_of x)
value_in (Bad r) σ = 0

-- one statement: judging goes on in an environment, or ends
pub data Next : Type 0 where
  Halt : Outcome → Next
  On : Env → Next

abbrev pub step : Stmt → Env → Next
step (Assign p x e) σ = On (update σ x (value σ e))
step (Test k p e) σ = cond (truthy (value σ e)) (On σ) (Halt (Failed k p))

abbrev pub step_body : Body Stmt → Env → Next
step_body (Good x) σ = step x σ
step_body (Bad r) σ = Halt Lost

-- what the code's step leads to, with the values that it leaves
abbrev pub next_of : Result (Unit {0}) Failure → Env → Next
next_of (Ok u) σ = On σ
next_of (Err f) σ = Halt (Failed f.kind f.place)

-- what is answered
abbrev pub answer_in : Result (Result (Unit {0}) Failure) Refused.Refusal → Answer
answer_in (Ok end) = answer_of (outcome_of end)
answer_in (Err f) = refusal (reply_of f.reason) f.offset
