-- What the code's values mean: its answers as functions of the definitions.
use Rattle.std.specs.Prelude.{ℕ, ◌+◌, ◌*◌, ◌≤◌, ◌<◌, ◌≡◌, List, length, take}
use Rattle.file.specs.File.{input_room}
use Rattle.file.specs.Words.{words_of}

-- the words that stand before the first `count` of an array: all of a valuation, or one too many for one that is of no file
pub record Decoded (valuation words : List ℕ) (count : ℕ) : Type 0 where
  pub room : length words ≡ input_room + 1
  pub most : count ≤ input_room + 1
  pub whole : count ≤ input_room → (length valuation ≡ 4 * count) × (take count words ≡ words_of count valuation)
  pub none : input_room < count → (c : ℕ) → c ≤ input_room → length valuation ≡ 4 * c → ⊥
