-- The answer of the printer's one public call, for every input: the whole text, or refusal 10 where the buffer is shorter than the text.
use Rattle.std.specs.Prelude.{ℕ, ◌≡◌, cond, List, [], length, leb}
use Rattle.write.specs.Splice.{over}
use Rattle.write.specs.declared.Written.{Written}
use Rattle.show.specs.Text.{printed}

-- the text is written from the buffer's first byte on, and the length answered is its
pub record Shown : Type 0 where
  pub reply : ℕ
  pub offset : ℕ
  pub bytes : List ℕ

abbrev pub refusal : (reply offset : ℕ) → Shown
refusal reply offset = record { reply = reply; offset = offset; bytes = [] }

abbrev pub fitting : (room : ℕ) (text : List ℕ) → Shown
fitting room text = cond (leb (length text) room) (record { reply = 0; offset = 0; bytes = text }) (refusal 10 0)

unfoldable pub show_answer : (input : List ℕ) (room : ℕ) → Shown
show_answer input room = fitting room (printed input)

-- ---- what the call answers and leaves in the buffer

abbrev pub numbers : Shown → Written
numbers q = record { reply = q.reply; offset = q.offset; length = length q.bytes }

pub record SliceShown (input out out' : List ℕ) (r : Written) : Type 0 where
  pub answer : r ≡ numbers (show_answer input (length out))
  pub buffer : out' ≡ over (show_answer input (length out)).bytes out
