-- Words handed as bytes: computed.
use Rattle.std.specs.Prelude.{◌≡◌, refl, [], ◌∷◌}
use Rattle.file.specs.Words.{words_of}

-- four bytes a word, the highest first
words : words_of 2 (0x00 ∷ 0x00 ∷ 0x01 ∷ 0x02 ∷ 0xFF ∷ 0x00 ∷ 0x00 ∷ 0x03 ∷ []) ≡ 258 ∷ 4278190083 ∷ []
words = refl
