-- Document 01, "Numbered replies": the answer to slicing, for every input.
use Rattle.std.specs.Prelude.{ℕ, ◌≡◌, cond, List, [], length, leb}
use Rattle.std.specs.Int.Count.{ones}
use Rattle.file.specs.File.{Head, Input, Accepted, Refused}
use Rattle.trace.specs.Trace.{Stmt, read_trace, encode_trace}
use Rattle.write.specs.Splice.{over}
use Rattle.slice.specs.declared.Answer.{Answer}
use Rattle.slice.specs.Slice.{slice}
use Rattle.slice.specs.Mask.{input_mask}

-- the bytes are written from the buffer's first byte on, and the length answered is theirs
pub record Sliced : Type 0 where
  pub reply : ℕ
  pub offset : ℕ
  pub bytes : List ℕ
  pub mask : ℕ
  pub inputs : ℕ

abbrev pub refusal : (reply offset : ℕ) → Sliced
refusal reply offset = record { reply = reply; offset = offset; bytes = []; mask = 0; inputs = 0 }

-- kept records stay byte for byte, behind the trace's header with new length and count
abbrev pub slice_of : (head : Head) (kept : List Stmt) → Sliced
slice_of head kept = record {
  reply = 0;
  offset = 0;
  bytes = encode_trace head kept;
  mask = input_mask head.inputs kept;
  inputs = ones (input_mask head.inputs kept);
}

-- after the trace's own refusals, 10
abbrev pub answered : (room : ℕ) → Input Stmt → Sliced
answered room (Refused reply offset) = refusal reply offset
answered room (Accepted head ts) = cond (leb (length (encode_trace head (slice ts))) room) (slice_of head (slice ts)) (refusal 10 0)

unfoldable pub slice_answer : (trace : List ℕ) (room : ℕ) → Sliced
slice_answer trace room = answered room (read_trace trace)

-- ---- what the call answers and leaves in the buffer

abbrev pub numbers : Sliced → Answer
numbers q = record { reply = q.reply; offset = q.offset; length = length q.bytes; mask = q.mask; inputs = q.inputs }

pub record SliceWritten (trace out out' : List ℕ) (r : Answer) : Type 0 where
  pub answer : r ≡ numbers (slice_answer trace (length out))
  pub buffer : out' ≡ over (slice_answer trace (length out)).bytes out
