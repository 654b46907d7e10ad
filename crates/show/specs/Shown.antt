-- What the code's values mean: its answers as functions of the definitions.
use Rattle.std.specs.Prelude.{ℕ, ◌≡◌, ◌<◌, List, [], length}
use Rattle.std.specs.Borrow.{MutBor}
use Rattle.file.specs.File.{Body, Good, Bad}
use Rattle.trace.specs.Trace.{Stmt}
use Rattle.write.specs.Splice.{over, Wrote}
use Rattle.write.specs.declared.Written.{Written}
use Rattle.show.specs.Text.{stmt_line}
use Rattle.show.specs.Answer.{fitting, numbers}

-- the line of a statement that a record holds
abbrev pub line_in : Body Stmt → List ℕ
line_in (Good t) = stmt_line t
line_in (Bad r) = []

-- ---- the whole text

-- what each call of a writer leaves in a buffer and answers: the text from the first byte on, and a number below a limit
abbrev pub Puts : (left : MutBor (List ℕ) → ℕ → MutBor (List ℕ) → Type 0) (text : List ℕ) → Type 0
Puts left text = (out : MutBor (List ℕ)) (n : ℕ) (out' : MutBor (List ℕ)) → left out n out' → Wrote out.now 0 text out'.now n

abbrev pub Counts : (left : MutBor (List ℕ) → ℕ → MutBor (List ℕ) → Type 0) (limit : ℕ) → Type 0
Counts left limit = (out : MutBor (List ℕ)) (n : ℕ) (out' : MutBor (List ℕ)) → left out n out' → n < limit

-- a text in a buffer that holds it, or refusal 10
pub record Fitted (text out out' : List ℕ) (r : Written) : Type 0 where
  pub answer : r ≡ numbers (fitting (length out) text)
  pub buffer : out' ≡ over (fitting (length out) text).bytes out
