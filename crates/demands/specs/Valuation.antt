-- Document 01, "What is built": a valuation is handed to `run` and `judge` as words, one for each input, and by the C job as bytes, four
-- for each input, the highest first.
use Rattle.std.specs.Prelude.{ℕ, ◌*◌, List, drop, get_or}
use Rattle.expr.specs.Number.{number_of}
use Rattle.table.specs.declared.Answer as Ran
use Rattle.table.specs.Answer.{run_answer}
use Rattle.trace.specs.declared.Answer as Judged
use Rattle.trace.specs.Answer.{judge_answer}
use Rattle.kadvitul.specs.Interface.{run_bytes, judge_bytes}

pub data Handed : Type 0 where
  Words Bytes : Handed

-- the length of a valuation of S inputs
abbrev pub length_for : Handed → (S : ℕ) → ℕ
length_for Words S = S
length_for Bytes S = 4 * S

-- the word of input s
abbrev pub input_in : Handed → (valuation : List ℕ) (s : ℕ) → ℕ
input_in Words v s = get_or v s 0
input_in Bytes v s = number_of 4 (drop (4 * s) v)

-- the answer to running, by `run` and by the calls from C
abbrev pub ran_with : Handed → (table : List ℕ) (K : ℕ) (valuation : List ℕ) → Ran.Answer
ran_with Words table K v = run_answer table K v
ran_with Bytes table K v = run_bytes table K v

-- and to judging
abbrev pub judged_with : Handed → (trace valuation : List ℕ) → Judged.Answer
judged_with Words trace v = judge_answer trace v
judged_with Bytes trace v = judge_bytes trace v
