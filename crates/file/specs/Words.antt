-- Document 01, "What is built": words handed as bytes, four for each, the highest first.
use Rattle.std.specs.Prelude.{ℕ, zero, suc, List, [], ◌∷◌, drop}
use Rattle.expr.specs.Number.{number_of}

-- the first c words
abbrev pub words_of : (c : ℕ) → List ℕ → List ℕ
words_of zero bs = []
words_of (suc c) bs = number_of 4 bs ∷ words_of c (drop 4 bs)
