-- Bytes written into a buffer: what a writer leaves, and the next place.
use Rattle.std.specs.Prelude.{ℕ, ◌+◌, ◌≡◌, List, ◌++◌, length, drop}
use Rattle.std.proofs.lemmas.List.Edits.{sets}

-- the bytes bs stored one after the other, from a place of xs on
unfoldable pub splice : (at : ℕ) (bs xs : List ℕ) → List ℕ
splice at bs xs = sets xs at bs

-- a writer: the buffer before, the place, the bytes; the buffer after, the next place
pub record Wrote (out : List ℕ) (at : ℕ) (bs out' : List ℕ) (at' : ℕ) : Type 0 where
  pub buffer : out' ≡ splice at bs out
  pub next : at' ≡ at + length bs

-- a result is written from the buffer's first byte, and the rest is left
abbrev pub over : (bs out : List ℕ) → List ℕ
over bs out = bs ++ drop (length bs) out
