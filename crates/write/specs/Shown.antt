-- What the code's values mean: its answers as functions of the definitions.
use Rattle.std.specs.Prelude.{ℕ, zero, suc, ◌/◌, cond, ltb, Result, Ok, Err}
use Rattle.file.specs.Shown.{reply_of}
use Rattle.file.specs.declared.Refusal.{Refusal}
use Rattle.write.specs.declared.Written.{Written}

-- what is answered: the length that is written, or a refusal, for which nothing is
abbrev pub written : Result ℕ Refusal → Written
written (Ok n) = record { reply = 0; offset = 0; length = n }
written (Err why) = record { reply = reply_of why.reason; offset = why.offset; length = 0 }

-- the digits of a number, at most k
abbrev pub digit_count_up_to : (k n : ℕ) → ℕ
digit_count_up_to zero n = 0
digit_count_up_to (suc k) n = cond (ltb n 10) 1 (suc (digit_count_up_to k (n / 10)))

abbrev pub digit_count : ℕ → ℕ
digit_count n = digit_count_up_to 10 n
