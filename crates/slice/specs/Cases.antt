-- Document 01's worked slices, on their real bytes, and each rule of "The slice" on a small trace: computed.
use Rattle.std.specs.Prelude.{ℕ, ◌+◌, ◌^◌, ◌≡◌, refl, List, [], ◌∷◌, ◌++◌, length}
use Rattle.std.proofs.Common.{ap}
use Rattle.std.specs.Int.Count.{ones}
use Rattle.expr.specs.declared.token.Token.TheVariants.{Symbol}
use Rattle.expr.specs.Token.{operator, read_token}
use Rattle.expr.specs.Expr.{fits, parse_from}
use Rattle.file.specs.Outcome.{Assert}
use Rattle.file.specs.File.{header_reply, frame, record_of, records, read_file, encode}
use Rattle.trace.specs.Trace.{Test, stmt, read_trace, reads_trace}
use Rattle.trace.specs.Cases.{small_trace0, no_instructions}
use Rattle.slice.specs.Slice.{slice}
use Rattle.slice.specs.MaskLaws.{mask-count}
use Rattle.slice.specs.Answer.{Sliced, refusal, slice_answer}
use Rattle.file.specs.File.{head_size, header_inputs, header_count, inputs_limit, input_room, header}
use Rattle.trace.specs.Trace.{is_trace, trace_version, old_version, tells_bound}

abbrev sliced : (bytes : List ℕ) (mask inputs : ℕ) → Sliced
sliced bytes mask inputs = record { reply = 0; offset = 0; bytes = bytes; mask = mask; inputs = inputs }

-- the slice of the small rule's trace under K = 0: assigns to s1 and s2, the bound at 2, assert at 3
abbrev pub small_slice0 : List ℕ
small_slice0 =
    0x82 ∷ 0x00 ∷ 0x66 ∷ 0x01 ∷ 0x00 ∷ 0x04
    ∷ 0x00 ∷ 0x0A ∷ 0x01 ∷ 0xFF ∷ 0xFF ∷ 0x00 ∷ 0x01
    ∷ 0x01 ∷ 0x00 ∷ 0x00 ∷ 0x00 ∷ 0x00
    ∷ 0x00 ∷ 0x1F ∷ 0x01 ∷ 0x00 ∷ 0x00 ∷ 0x00 ∷ 0x02
    ∷ 0x03 ∷ 0x00 ∷ 0x01 ∷ 0x01 ∷ 0x00 ∷ 0x00 ∷ 0x00 ∷ 0x00 ∷ 0x2D
    ∷ 0x03 ∷ 0x00 ∷ 0x00 ∷ 0x12 ∷ 0x01 ∷ 0x00 ∷ 0x00 ∷ 0x00 ∷ 0x03 ∷ 0x03 ∷ 0x00 ∷ 0x01 ∷ 0x30
    ∷ 0x03 ∷ 0x00 ∷ 0x01 ∷ 0x30
    ∷ 0x00 ∷ 0x18 ∷ 0x04 ∷ 0x00 ∷ 0x02
    ∷ 0x03 ∷ 0x00 ∷ 0x02 ∷ 0x01 ∷ 0x00 ∷ 0x00 ∷ 0x00 ∷ 0x02 ∷ 0x2D
    ∷ 0x01 ∷ 0x00 ∷ 0x00 ∷ 0x00 ∷ 0x01 ∷ 0x12
    ∷ 0x01 ∷ 0x00 ∷ 0x00 ∷ 0x00 ∷ 0x01 ∷ 0x30
    ∷ 0x00 ∷ 0x17 ∷ 0x03 ∷ 0x00 ∷ 0x03
    ∷ 0x03 ∷ 0x00 ∷ 0x02 ∷ 0x01 ∷ 0x00 ∷ 0x00 ∷ 0x00 ∷ 0x03 ∷ 0x2D
    ∷ 0x01 ∷ 0x00 ∷ 0x00 ∷ 0x00 ∷ 0x00
    ∷ 0x01 ∷ 0x00 ∷ 0x00 ∷ 0x00 ∷ 0x01 ∷ 0x30 ∷ []

-- m5: the slice has 102 bytes, mask 1, count 1; a room that is one byte short is 10
pub m5 : (slice_answer small_trace0 102 ≡ sliced small_slice0 1 1) × (length small_slice0 ≡ 102)
    × (slice_answer small_trace0 101 ≡ refusal 10 0)
unfolding slice_answer read_trace is_trace trace_version old_version tells_bound read_file header_reply head_size header_inputs header_count
    inputs_limit input_room records record_of frame stmt parse_from read_token operator fits slice encode header ones
m5 = (refl, refl, refl)

-- m11: no statements, 6 bytes
pub m11 : slice_answer no_instructions 6 ≡ sliced (0x82 ∷ 0x00 ∷ 0x06 ∷ 0x00 ∷ 0x00 ∷ 0x00 ∷ []) 0 0
unfolding slice_answer read_trace is_trace trace_version old_version tells_bound read_file header_reply head_size header_inputs header_count
    inputs_limit input_room records record_of frame stmt parse_from read_token operator fits slice encode header ones
m11 = refl

-- ---- traces of three inputs

-- n records behind their header
abbrev trace_of : (n : ℕ) → List ℕ → List ℕ
trace_of n records = 0x81 ∷ 0x00 ∷ (6 + length records) ∷ 0x03 ∷ 0x00 ∷ n ∷ records

-- at place p symbol x becomes symbol y
abbrev assign : (p x y : ℕ) → List ℕ
assign p x y = 0x00 ∷ 0x08 ∷ 0x01 ∷ 0x00 ∷ p ∷ 0x00 ∷ x ∷ 0x03 ∷ 0x00 ∷ y ∷ []

-- at place p a test of symbol y
abbrev assume : (p y : ℕ) → List ℕ
assume p y = 0x00 ∷ 0x06 ∷ 0x02 ∷ 0x00 ∷ p ∷ 0x03 ∷ 0x00 ∷ y ∷ []

abbrev assert : (p y : ℕ) → List ℕ
assert p y = 0x00 ∷ 0x06 ∷ 0x03 ∷ 0x00 ∷ p ∷ 0x03 ∷ 0x00 ∷ y ∷ []

abbrev nothing : Sliced
nothing = sliced (trace_of 0 []) 0 0

-- keep every Assert; keep an Assume if an Assert follows it, even if they share no symbol; an Assume after the last Assert is dropped
tests : (slice_answer (trace_of 2 (assert 0 1 ++ assert 1 1)) 255 ≡ sliced (trace_of 2 (assert 0 1 ++ assert 1 1)) 2 1)
    × (slice_answer (trace_of 2 (assume 0 0 ++ assert 1 1)) 255 ≡ sliced (trace_of 2 (assume 0 0 ++ assert 1 1)) 3 2)
    × (slice_answer (trace_of 2 (assert 0 1 ++ assume 1 1)) 255 ≡ sliced (trace_of 1 (assert 0 1)) 2 1)
unfolding slice_answer read_trace is_trace trace_version old_version tells_bound read_file header_reply head_size header_inputs header_count
    inputs_limit input_room records record_of frame stmt parse_from read_token operator fits slice encode header ones
tests = (refl, refl, refl)

-- n records under version 130
abbrev new_of : (n : ℕ) → List ℕ → List ℕ
new_of n records = 0x82 ∷ 0x00 ∷ (6 + length records) ∷ 0x03 ∷ 0x00 ∷ n ∷ records

abbrev bound : (p y : ℕ) → List ℕ
bound p y = 0x00 ∷ 0x06 ∷ 0x04 ∷ 0x00 ∷ p ∷ 0x03 ∷ 0x00 ∷ y ∷ []

-- a test of the bound is kept or dropped as an Assume is, and the slice has its trace's version; under 129 it is 5
bounds : (slice_answer (new_of 2 (bound 0 0 ++ assert 1 1)) 255 ≡ sliced (new_of 2 (bound 0 0 ++ assert 1 1)) 3 2)
    × (slice_answer (new_of 2 (assert 0 1 ++ bound 1 1)) 255 ≡ sliced (new_of 1 (assert 0 1)) 2 1)
    × (slice_answer (new_of 1 (bound 0 0)) 255 ≡ sliced (new_of 0 []) 0 0)
    × (slice_answer (trace_of 2 (bound 0 0 ++ assert 1 1)) 255 ≡ refusal 5 6)
unfolding slice_answer read_trace is_trace trace_version old_version tells_bound read_file header_reply head_size header_inputs header_count
    inputs_limit input_room records record_of frame stmt parse_from read_token operator fits slice encode header ones
bounds = (refl, refl, refl, refl)

-- keep an Assign if its symbol is needed: a kept Assert, Assume or Assign reads it, and not only a dropped Assume or Assign
assigns : (slice_answer (trace_of 2 (assign 0 3 2 ++ assert 1 3)) 255 ≡ sliced (trace_of 2 (assign 0 3 2 ++ assert 1 3)) 4 1)
    × (slice_answer (trace_of 3 (assign 0 3 2 ++ assume 1 3 ++ assert 2 1)) 255
    ≡ sliced (trace_of 3 (assign 0 3 2 ++ assume 1 3 ++ assert 2 1)) 6 2)
    × (slice_answer (trace_of 3 (assign 0 3 2 ++ assign 1 4 3 ++ assert 2 4)) 255
    ≡ sliced (trace_of 3 (assign 0 3 2 ++ assign 1 4 3 ++ assert 2 4)) 4 1)
    × (slice_answer (trace_of 3 (assign 0 3 2 ++ assert 1 1 ++ assume 2 3)) 255 ≡ sliced (trace_of 1 (assert 1 1)) 2 1)
    × (slice_answer (trace_of 3 (assign 0 3 2 ++ assign 1 4 3 ++ assert 2 1)) 255 ≡ sliced (trace_of 1 (assert 2 1)) 2 1)
unfolding slice_answer read_trace is_trace trace_version old_version tells_bound read_file header_reply head_size header_inputs header_count
    inputs_limit input_room records record_of frame stmt parse_from read_token operator fits slice encode header ones
assigns = (refl, refl, refl, refl, refl)

-- a trace with no Assert has the empty slice
no_assert : (slice_answer (trace_of 0 []) 6 ≡ nothing) × (slice_answer (trace_of 2 (assign 0 3 2 ++ assume 1 3)) 6 ≡ nothing)
unfolding slice_answer read_trace is_trace trace_version old_version tells_bound read_file header_reply head_size header_inputs header_count
    inputs_limit input_room records record_of frame stmt parse_from read_token operator fits slice encode header ones
no_assert = (refl, refl)

-- kept records stay in order, with their numbers: places 9, 5 and 7 and symbol 6 where places 0 and 1 and symbols 3 and 4 are dropped
numbers_stay : slice_answer (trace_of 5 (assign 0 3 0 ++ assert 9 2 ++ assign 1 4 3 ++ assign 5 6 1 ++ assert 7 6)) 255
    ≡ sliced (trace_of 3 (assert 9 2 ++ assign 5 6 1 ++ assert 7 6)) 6 2
unfolding slice_answer read_trace is_trace trace_version old_version tells_bound read_file header_reply head_size header_inputs header_count
    inputs_limit input_room records record_of frame stmt parse_from read_token operator fits slice encode header ones
numbers_stay = refl

-- a refused trace writes nothing: its own refusals, with their offsets, come before 10
refusals : (slice_answer [] 0 ≡ refusal 1 0) × (slice_answer (trace_of 2 (assert 0 1 ++ assert 1 3)) 0 ≡ refusal 7 19)
unfolding slice_answer read_trace is_trace trace_version old_version tells_bound read_file header_reply head_size header_inputs header_count
    inputs_limit input_room records record_of frame stmt parse_from read_token operator fits
refusals = (refl, refl)

-- 64 inputs, assert s63 at 0: the last input has the mask's highest bit
abbrev last : List ℕ
last = 0x81 ∷ 0x00 ∷ 0x0E ∷ 0x40 ∷ 0x00 ∷ 0x01 ∷ assert 0 63

last-input : slice_answer last 14 ≡ sliced last (2 ^ 63) 1
unfolding slice_answer read_trace is_trace trace_version old_version tells_bound read_file header_reply head_size header_inputs header_count
    inputs_limit input_room records record_of frame stmt parse_from read_token operator fits slice encode header
last-input = ap (sliced last (2 ^ 63)) (mask-count 64 (λ s. reads_trace s (Test Assert 0 (Symbol 63 ∷ []) ∷ [])))
