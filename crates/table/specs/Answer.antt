-- Document 01, "Numbered replies": the answer to running, for every input.
use Rattle.std.specs.Prelude.{ℕ, ◌≡◌, cond, List, length, eqb, leb}
use Rattle.file.specs.Outcome.{verdict, place_of}
use Rattle.file.specs.File.{Input, Accepted, Refused}
use Rattle.table.specs.declared.Answer.{Answer}
use Rattle.table.specs.Table.{Instr, read_table}
use Rattle.table.specs.Run.{Ran, run}

-- a refusal says ended, and its other numbers are 0
abbrev pub refusal : (reply offset : ℕ) → Answer
refusal reply offset = record { reply = reply; offset = offset; verdict = 0; place = 0; back_jumps = 0 }

abbrev pub answer_of : Ran → Answer
answer_of q = record { reply = 0; offset = 0; verdict = verdict q.outcome; place = place_of q.outcome; back_jumps = q.back_jumps }

-- after the table's own refusals, 8 and then 11
abbrev pub answered : (K : ℕ) (words : List ℕ) → Input Instr → Answer
answered K words (Refused reply offset) = refusal reply offset
answered K words (Accepted head is) =
    cond (leb K 255) (cond (eqb (length words) head.inputs) (answer_of (run is K words)) (refusal 11 0)) (refusal 8 0)

unfoldable pub run_answer : (table : List ℕ) (K : ℕ) (words : List ℕ) → Answer
run_answer table K words = answered K words (read_table table)

-- ---- what the call answers

pub record RunAnswered (table : List ℕ) (K : ℕ) (words : List ℕ) (r : Answer) : Type 0 where
  pub answer : r ≡ run_answer table K words
