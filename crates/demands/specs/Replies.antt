-- Document 01, "Numbered replies", row by row, over the bytes. Where a record stands is said by the length fields alone; the readers of
-- `table` and `trace` are not cited for any condition of 1 to 7.
use Rattle.std.specs.Prelude.{ℕ, zero, suc, ◌+◌, ◌-◌, ◌*◌, ◌≤◌, ◌<◌, ◌≡◌, ◌↔◌, Bool, false, cond, ◌&&◌, ◌||◌, List, [], length, take, drop}
use Rattle.std.specs.Prelude.{get_or, eqb}
use Rattle.std.proofs.Math.Option.{Option, none, some}
use Rattle.expr.specs.declared.File.{File}
use Rattle.expr.specs.declared.File.TheVariants.{Table, Trace}
use Rattle.expr.specs.Number.{number_of}
use Rattle.expr.specs.Expr.{below}
use Rattle.file.specs.Outcome as Outcome
use Rattle.file.specs.File.{inputs_limit, header_version, header_size, header_total, header_inputs, header_count, head_of}
use Rattle.file.specs.Shown.{listed}
use Rattle.table.specs.Table.{is_table, read_table}
use Rattle.trace.specs.Trace.{is_trace, tells_bound, read_trace, trace_head, encode_trace}
use Rattle.unwind.specs.Unwind.{unwind}
use Rattle.slice.specs.Slice.{slice}
use Rattle.script.specs.ScriptText.{script_text}
use Rattle.demands.specs.Valuation.{Handed, length_for}
use Rattle.demands.specs.Expression.{BreaksAt}

-- ---- where things stand

-- the first byte of record k: the first record follows the header, each other one the record before it
abbrev pub record_at : List ℕ → (k : ℕ) → ℕ
record_at s zero = header_size s
record_at s (suc k) = record_at s k + (2 + number_of 2 (drop (record_at s k) s))

-- of the record at an offset: its length, its kind, and a number of w bytes that stands i bytes after the length
abbrev pub length_at : List ℕ → (at : ℕ) → ℕ
length_at s at = number_of 2 (drop at s)

abbrev pub kind_at : List ℕ → (at : ℕ) → ℕ
kind_at s at = get_or s (at + 2) 0

abbrev pub number_at : List ℕ → (at i w : ℕ) → ℕ
number_at s at i w = number_of w (drop (at + (2 + i)) s)

-- the expression, which goes from i bytes after the length to the record's end
abbrev pub expr_at : List ℕ → (at i : ℕ) → List ℕ
expr_at s at i = take (length_at s at - i) (drop (at + (2 + i)) s)

-- ---- what differs between tables and traces

-- the bytes of the kind and its fields, by version; an unknown kind has none
abbrev pub fields : File → (version kind : ℕ) → Option ℕ
fields Table version kind =
    cond (eqb kind 1) (some 2) (cond (eqb kind 2) (some 1) (cond (eqb kind 3) (some 1) (cond (eqb kind 4) (some 3) none)))
fields Trace version kind =
    cond (eqb kind 1) (some 5)
    (cond (eqb kind 2) (some 3) (cond (eqb kind 3) (some 3) (cond (tells_bound version && eqb kind 4) (some 3) none)))

abbrev pub fields_at : File → List ℕ → (at : ℕ) → Option ℕ
fields_at F s at = fields F (header_version s) (kind_at s at)

abbrev pub known : File → (version : ℕ) → Bool
known Table version = is_table version
known Trace version = is_trace version

abbrev pub limit : File → ℕ
limit Table = 1024
limit Trace = 4096

-- one of the first k statements assigns x
abbrev pub assigned_before : List ℕ → (k x : ℕ) → Bool
assigned_before s zero x = false
assigned_before s (suc k) x = (eqb (kind_at s (record_at s k)) 1 && eqb x (number_at s (record_at s k) 3 2)) || assigned_before s k x

-- the symbols that record k may read
abbrev pub may_read : File → List ℕ → (k x : ℕ) → Bool
may_read Table s k x = below (header_inputs s) x
may_read Trace s k x = below (header_inputs s) x || assigned_before s k x

-- ---- the rows

-- 5, in a record
pub data Framing (F : File) (s : List ℕ) (at : ℕ) : Type 0 where
  length_missing : length s < at + 2 → Framing F s at
  passes_the_end : length s < at + (2 + length_at s at) → Framing F s at
  length_zero : length_at s at ≡ 0 → Framing F s at
  unknown-kind : fields_at F s at ≡ none → Framing F s at
  fields_missing : (m : ℕ) → fields_at F s at ≡ some m → length_at s at < m → Framing F s at

-- 6: a target or an assigned symbol against its rule
pub data Ruling : (F : File) (s : List ℕ) (k at : ℕ) → Type 0 where
  symbol_not_below : {s : List ℕ} {k at : ℕ} → kind_at s at ≡ 1 → header_inputs s ≤ number_at s at 1 1 → Ruling Table s k at
  target_past_the_end : {s : List ℕ} {k at : ℕ} → kind_at s at ≡ 4 → header_count s < number_at s at 1 2 → Ruling Table s k at
  symbol_of_an_input : {s : List ℕ} {k at : ℕ} → kind_at s at ≡ 1 → number_at s at 3 2 < header_inputs s → Ruling Trace s k at
  symbol_too_high : {s : List ℕ} {k at : ℕ} → kind_at s at ≡ 1 → header_inputs s + 4096 ≤ number_at s at 3 2 → Ruling Trace s k at
  symbol_not_greater : {s : List ℕ} {k at : ℕ} (i : ℕ) → kind_at s at ≡ 1 → i < k → kind_at s (record_at s i) ≡ 1
      → number_at s at 3 2 ≤ number_at s (record_at s i) 3 2 → Ruling Trace s k at

-- 7: the expression, which follows the kind and its fields, breaks its rules at this byte of the file
pub data Wording (F : File) (s : List ℕ) (k at o : ℕ) : Type 0 where
  breaks : (m i : ℕ) → fields_at F s at ≡ some m → BreaksAt F (may_read F s k) (expr_at s at m) i → o ≡ at + (2 + m) + i
      → Wording F s k at o

-- a call, with all that it is given: a valuation as words or as bytes, a buffer by its room
pub data Call : Type 0 where
  Run : Handed → (table : List ℕ) (K : ℕ) (valuation : List ℕ) → Call
  Judge : Handed → (trace valuation : List ℕ) → Call
  WriteTrace : (table : List ℕ) (K room : ℕ) → Call
  SliceTrace : (trace : List ℕ) (room : ℕ) → Call
  WriteScript : (trace : List ℕ) (room : ℕ) → Call

abbrev pub file_of : Call → File
file_of (Run h t K v) = Table
file_of (Judge h t v) = Trace
file_of (WriteTrace t K room) = Table
file_of (SliceTrace t room) = Trace
file_of (WriteScript t room) = Trace

abbrev pub bytes_of : Call → List ℕ
bytes_of (Run h t K v) = t
bytes_of (Judge h t v) = t
bytes_of (WriteTrace t K room) = t
bytes_of (SliceTrace t room) = t
bytes_of (WriteScript t room) = t

-- the rows, those of a record with the record's number
pub data Row : Type 0 where
  Short Version Total Limits : Row
  Frame Rule Expression : (k : ℕ) → Row
  Spare Bound Size Room Valuation : Row

abbrev pub number : Row → ℕ
number Short = 1
number Version = 2
number Total = 3
number Limits = 4
number (Frame k) = 5
number (Rule k) = 6
number (Expression k) = 7
number Spare = 5
number Bound = 8
number Size = 9
number Room = 10
number Valuation = 11

-- the bytes that a call would write
abbrev pub result : Call → List ℕ
result (Run h t K v) = []
result (Judge h t v) = []
result (WriteTrace t K room) = encode_trace (trace_head (header_inputs t))
    (unwind Outcome.Bound (header_inputs t) (listed (read_table t)) K)
result (SliceTrace t room) = encode_trace (head_of t) (slice (listed (read_trace t)))
result (WriteScript t room) = script_text (header_inputs t) (listed (read_trace t))

-- when a row holds
abbrev pub When : Call → Row → Type 0
When c Short = length (bytes_of c) < header_size (bytes_of c)
When c Version = known (file_of c) (header_version (bytes_of c)) ≡ false
When c Total = header_total (bytes_of c) ≡ length (bytes_of c) → ⊥
When c Limits =
    (header_inputs (bytes_of c) ≤ inputs_limit (header_version (bytes_of c))) × (header_count (bytes_of c) ≤ limit (file_of c)) → ⊥
When c (Frame k) = (k < header_count (bytes_of c)) × Framing (file_of c) (bytes_of c) (record_at (bytes_of c) k)
When c (Rule k) = (k < header_count (bytes_of c)) × Ruling (file_of c) (bytes_of c) k (record_at (bytes_of c) k)
When c (Expression k) = (k < header_count (bytes_of c)) × ((o : ℕ) × Wording (file_of c) (bytes_of c) k (record_at (bytes_of c) k) o)
When c Spare = record_at (bytes_of c) (header_count (bytes_of c)) < length (bytes_of c)
When (Run h t K v) Bound = 255 < K
When (Judge h t v) Bound = ⊥
When (WriteTrace t K room) Bound = 255 < K
When (SliceTrace t room) Bound = ⊥
When (WriteScript t room) Bound = ⊥
When (Run h t K v) Size = ⊥
When (Judge h t v) Size = ⊥
When (WriteTrace t K room) Size =
    (length (unwind Outcome.Bound (header_inputs t) (listed (read_table t)) K) ≤ 4096) × (length (result (WriteTrace t K room)) ≤ 65535) → ⊥
When (SliceTrace t room) Size = ⊥
When (WriteScript t room) Size = ⊥
When (Run h t K v) Room = ⊥
When (Judge h t v) Room = ⊥
When (WriteTrace t K room) Room = room < length (result (WriteTrace t K room))
When (SliceTrace t room) Room = room < length (result (SliceTrace t room))
When (WriteScript t room) Room = room < length (result (WriteScript t room))
When (Run h t K v) Valuation = length v ≡ length_for h (header_inputs t) → ⊥
When (Judge h t v) Valuation = length v ≡ length_for h (header_inputs t) → ⊥
When (WriteTrace t K room) Valuation = ⊥
When (SliceTrace t room) Valuation = ⊥
When (WriteScript t room) Valuation = ⊥

-- the byte that a row points at: a record's first byte, the byte at which its expression breaks its rules, the first spare byte
abbrev pub Points : Call → Row → (o : ℕ) → Type 0
Points c Short o = o ≡ 0
Points c Version o = o ≡ 0
Points c Total o = o ≡ 0
Points c Limits o = o ≡ 0
Points c (Frame k) o = o ≡ record_at (bytes_of c) k
Points c (Rule k) o = o ≡ record_at (bytes_of c) k
Points c (Expression k) o = Wording (file_of c) (bytes_of c) k (record_at (bytes_of c) k) o
Points c Spare o = o ≡ record_at (bytes_of c) (header_count (bytes_of c))
Points c Bound o = o ≡ 0
Points c Size o = o ≡ 0
Points c Room o = o ≡ 0
Points c Valuation o = o ≡ 0

-- the order: 1 to 4; then record after record, within each 5, 6, 7; spare bytes; then 8 and 11, or 8, 9, 10, or 11, or 10
abbrev pub rank : (n : ℕ) → Row → ℕ
rank n Short = 0
rank n Version = 1
rank n Total = 2
rank n Limits = 3
rank n (Frame k) = 4 + 3 * k
rank n (Rule k) = 5 + 3 * k
rank n (Expression k) = 6 + 3 * k
rank n Spare = 4 + 3 * n
rank n Bound = 5 + 3 * n
rank n Size = 6 + 3 * n
rank n Room = 7 + 3 * n
rank n Valuation = 8 + 3 * n

-- a row holds and no row that comes before it does
pub record FirstRow (c : Call) (row : Row) : Type 0 where
  pub holds : When c row
  pub none_before : (other : Row) → rank (header_count (bytes_of c)) other < rank (header_count (bytes_of c)) row → When c other → ⊥

-- demand 1, of a call that answers with this reply and offset: it is done exactly if no row holds; and it refuses with a number at an
-- offset exactly if a row of that number holds and points there, and no row before it holds
pub record Demand1 (c : Call) (reply at : ℕ) : Type 0 where
  pub done : (reply ≡ 0) ↔ ((row : Row) → When c row → ⊥)
  pub done-offset : reply ≡ 0 → at ≡ 0
  pub refused : (k o : ℕ) → 0 < k → ((reply ≡ k) × (at ≡ o))
      ↔ ((row : Row) × (number row ≡ k) × Points c row o × FirstRow c row)
