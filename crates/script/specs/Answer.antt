-- Request 2026-02, "Refusals: the trace's own, then 10": the answer to writing a trace's script, for every input.
use Rattle.std.specs.Prelude.{ℕ, ◌≡◌, cond, List, [], length, leb}
use Rattle.file.specs.File.{Input, Accepted, Refused}
use Rattle.trace.specs.Trace.{Stmt, read_trace}
use Rattle.write.specs.Splice.{over}
use Rattle.write.specs.declared.Written.{Written}
use Rattle.script.specs.ScriptText.{script_text}

-- the bytes are written from the buffer's first byte on, and the length answered is theirs
pub record Exported : Type 0 where
  pub reply : ℕ
  pub offset : ℕ
  pub bytes : List ℕ

abbrev pub refusal : (reply offset : ℕ) → Exported
refusal reply offset = record { reply = reply; offset = offset; bytes = [] }

abbrev pub exported : List ℕ → Exported
exported bytes = record { reply = 0; offset = 0; bytes = bytes }

-- a text, or 10 where there is no room for it
abbrev pub fitting : (room : ℕ) (text : List ℕ) → Exported
fitting room text = cond (leb (length text) room) (exported text) (refusal 10 0)

-- after the trace's own refusals, 10
abbrev pub answered : (room : ℕ) → Input Stmt → Exported
answered room (Refused reply offset) = refusal reply offset
answered room (Accepted head ts) = fitting room (script_text head.inputs ts)

unfoldable pub script_answer : (trace : List ℕ) (room : ℕ) → Exported
script_answer trace room = answered room (read_trace trace)

-- ---- what the call answers and leaves in the buffer

abbrev pub numbers : Exported → Written
numbers q = record { reply = q.reply; offset = q.offset; length = length q.bytes }

pub record ScriptWritten (trace out out' : List ℕ) (r : Written) : Type 0 where
  pub answer : r ≡ numbers (script_answer trace (length out))
  pub buffer : out' ≡ over (script_answer trace (length out)).bytes out
