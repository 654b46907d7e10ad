-- Document 01, "Numbered replies": the answer to judging, for every input.
use Rattle.std.specs.Prelude.{ℕ, ◌≡◌, cond, List, length, eqb}
use Rattle.expr.specs.Eval.{env_of}
use Rattle.file.specs.Outcome.{Outcome, verdict, place_of}
use Rattle.file.specs.File.{Input, Accepted, Refused}
use Rattle.trace.specs.declared.Answer.{Answer}
use Rattle.trace.specs.Trace.{Stmt, read_trace}
use Rattle.trace.specs.Judge.{judge}

-- a refusal says ended, and its other numbers are 0
abbrev pub refusal : (reply offset : ℕ) → Answer
refusal reply offset = record { reply = reply; offset = offset; verdict = 0; place = 0 }

abbrev pub answer_of : Outcome → Answer
answer_of o = record { reply = 0; offset = 0; verdict = verdict o; place = place_of o }

-- after the trace's own refusals, 11
abbrev pub answered : (words : List ℕ) → Input Stmt → Answer
answered words (Refused reply offset) = refusal reply offset
answered words (Accepted head ts) = cond (eqb (length words) head.inputs) (answer_of (judge ts (env_of words))) (refusal 11 0)

unfoldable pub judge_answer : (trace words : List ℕ) → Answer
judge_answer trace words = answered words (read_trace trace)

-- ---- what the call answers

pub record JudgeAnswered (trace words : List ℕ) (r : Answer) : Type 0 where
  pub answer : r ≡ judge_answer trace words
