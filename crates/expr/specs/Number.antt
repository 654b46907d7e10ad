-- Document 01, "Table and trace bytes": all numbers are big-endian.
use Rattle.std.specs.Prelude.{ℕ, zero, suc, ◌+◌, ◌*◌, ◌/◌, ◌%◌, ◌^◌, ◌<◌, List, [], ◌∷◌}

abbrev pub Byte : ℕ → Type 0
Byte b = b < 256

-- the number that k bytes add to what was read before them
abbrev pub number_after : (before k : ℕ) → List ℕ → ℕ
number_after n zero bs = n
number_after n (suc k) [] = n
number_after n (suc k) (b ∷ bs) = number_after (n * 256 + b) k bs

-- the number of the first k bytes
abbrev pub number_of : (k : ℕ) → List ℕ → ℕ
number_of k bs = number_after 0 k bs

-- the k bytes of a number
abbrev pub bytes_of : (k n : ℕ) → List ℕ
bytes_of zero n = []
bytes_of (suc k) n = n / 256 ^ k % 256 ∷ bytes_of k n
