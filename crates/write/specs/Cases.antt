-- Bytes stored in a small buffer, letters and numbers: computed.
use Rattle.std.specs.Prelude.{◌≡◌, refl, [], ◌∷◌}
use Rattle.write.specs.Splice.{splice, over}
use Rattle.write.specs.Ascii.{ascii}
use Rattle.write.specs.Decimal.{decimal}

-- from their place on, and nothing beside them
stored : (splice 1 (5 ∷ 6 ∷ []) (1 ∷ 2 ∷ 3 ∷ 4 ∷ []) ≡ 1 ∷ 5 ∷ 6 ∷ 4 ∷ []) × (splice 2 [] (1 ∷ 2 ∷ 3 ∷ []) ≡ 1 ∷ 2 ∷ 3 ∷ [])
unfolding splice
stored = (refl, refl)

-- a result from the first byte on, the rest as it was
left : (over (5 ∷ 6 ∷ []) (1 ∷ 2 ∷ 3 ∷ 4 ∷ []) ≡ 5 ∷ 6 ∷ 3 ∷ 4 ∷ []) × (over [] (1 ∷ 2 ∷ []) ≡ 1 ∷ 2 ∷ [])
    × (over (5 ∷ []) (1 ∷ []) ≡ 5 ∷ [])
left = (refl, refl, refl)

-- the largest constant
largest : decimal 4294967295 ≡ ascii "4294967295"
unfolding decimal
largest = refl

-- a byte for a letter
letters : ascii "s 09az\n" ≡ 115 ∷ 32 ∷ 48 ∷ 57 ∷ 97 ∷ 122 ∷ 10 ∷ []
letters = refl

numbers : (decimal 0 ≡ 48 ∷ []) × (decimal 9 ≡ 57 ∷ []) × (decimal 10 ≡ 49 ∷ 48 ∷ []) × (decimal 4096 ≡ 52 ∷ 48 ∷ 57 ∷ 54 ∷ [])
unfolding decimal
numbers = (refl, refl, refl, refl)
