-- Document 01, "Numbered replies": the answer to writing a trace, for every input.
use Rattle.std.specs.Prelude.{ℕ, ◌≡◌, cond, ◌&&◌, List, [], length, leb}
use Rattle.file.specs.Outcome.{Bound}
use Rattle.file.specs.File.{Input, Accepted, Refused}
use Rattle.table.specs.Table.{Instr, read_table}
use Rattle.trace.specs.Trace.{Stmt, trace_head, encode_trace}
use Rattle.write.specs.Splice.{over}
use Rattle.write.specs.declared.Written.{Written}
use Rattle.unwind.specs.Unwind.{unwind}

-- the bytes are written from the buffer's first byte on, and the length answered is theirs
pub record Traced : Type 0 where
  pub reply : ℕ
  pub offset : ℕ
  pub bytes : List ℕ

abbrev pub refusal : (reply offset : ℕ) → Traced
refusal reply offset = record { reply = reply; offset = offset; bytes = [] }

-- over 4,096 statements or 65,535 bytes is 9, a buffer shorter than the trace 10
abbrev pub fitting : (room : ℕ) → (count : ℕ) → List ℕ → Traced
fitting room count bytes =
    cond (leb count 4096 && leb (length bytes) 65535) (cond (leb (length bytes) room) (record { reply = 0; offset = 0; bytes = bytes })
    (refusal 10 0)) (refusal 9 0)

abbrev pub trace_of : (room S : ℕ) → List Stmt → Traced
trace_of room S ts = fitting room (length ts) (encode_trace (trace_head S) ts)

-- after the table's own refusals 8, then 9 and 10; the bound's tests have their own kind
abbrev pub answered : (K room : ℕ) → Input Instr → Traced
answered K room (Refused reply offset) = refusal reply offset
answered K room (Accepted head is) = cond (leb K 255) (trace_of room head.inputs (unwind Bound head.inputs is K)) (refusal 8 0)

unfoldable pub trace_answer : (table : List ℕ) (K room : ℕ) → Traced
trace_answer table K room = answered K room (read_table table)

-- ---- what the call answers and leaves in the buffer

abbrev pub numbers : Traced → Written
numbers q = record { reply = q.reply; offset = q.offset; length = length q.bytes }

pub record TraceWritten (table : List ℕ) (K : ℕ) (out out' : List ℕ) (r : Written) : Type 0 where
  pub answer : r ≡ numbers (trace_answer table K (length out))
  pub buffer : out' ≡ over (trace_answer table K (length out)).bytes out
