-- Document 01, "A small rule, worked": numbers in decimal.
use Rattle.std.specs.Prelude.{ℕ, zero, suc, ◌+◌, ◌/◌, ◌%◌, cond, List, [], ◌∷◌, ◌++◌, ltb}

-- at most k digits, none of them a leading zero
abbrev pub decimal_up_to : (k n : ℕ) → List ℕ
decimal_up_to zero n = []
decimal_up_to (suc k) n = cond (ltb n 10) ((48 + n) ∷ []) (decimal_up_to k (n / 10) ++ (48 + n % 10) ∷ [])

-- ten digits hold every word
unfoldable pub decimal : ℕ → List ℕ
decimal n = decimal_up_to 10 n
