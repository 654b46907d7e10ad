-- How much the program reads, and how much room it has for the text. No contract of the kit says what a program reads or writes; these say
-- that its buffers lose nothing.
use Rattle.std.specs.Prelude.{ℕ, ◌≤◌, ◌≡◌, List, length, take}
use Rattle.expr.specs.Lists.{All}
use Rattle.expr.specs.Number.{Byte}
use Rattle.show.specs.Text.{printed}

-- the first n bytes of any input decide what is printed
pub record Decides (n : ℕ) : Type 0 where
  pub decides : (input : List ℕ) → All Byte input → printed (take n input) ≡ printed input

-- m bytes hold every text
pub record HoldsEvery (m : ℕ) : Type 0 where
  pub holds : (input : List ℕ) → All Byte input → length (printed input) ≤ m
