-- What the code's values mean: its answers as functions of the definitions.
use Rattle.std.specs.Prelude.{ℕ, zero, suc, ◌+◌, ◌-◌, ◌≤◌, ◌<◌, ◌≡◌, Bool, true, false, cond, List, [], ◌∷◌, length, take, drop, get_or}
use Rattle.std.specs.Prelude.{eqb, Option, Some, None, Result, Ok, Err}
use Rattle.std.proofs.lemmas.List.Edits.{sets}
use Rattle.expr.specs.Number.{number_of}
use Rattle.expr.specs.Expr.{Parsed, Whole, Breaks}
use Rattle.file.specs.Outcome.{Kind, Assume, Assert, Outcome, Ended, Failed}
use Rattle.file.specs.File.{Head, header_size, header_count, head_of, after_header, header_reply, Refusal, AtRecord, AtToken, Body, Good}
use Rattle.file.specs.File.{Bad, frame, record_of}
use Rattle.file.specs.File.{Records, Read, Stop, records, Input, Accepted, Refused}
use Rattle.file.specs.declared.Reason.{Reason}
use Rattle.file.specs.declared.Reason.TheVariants as R
use Rattle.file.specs.declared.Refusal as Code
use Rattle.file.specs.declared.Unread.{Unread}
use Rattle.file.specs.declared.Failure.{Failure}

-- ---- refusals, as numbers

-- the reply of a reason
abbrev pub reply_of : Reason → ℕ
reply_of R.Short = 1
reply_of R.Version = 2
reply_of R.Length = 3
reply_of R.TooMany = 4
reply_of R.Record = 5
reply_of R.Rule = 6
reply_of R.Expression = 7
reply_of R.HighBound = 8
reply_of R.LongTrace = 9
reply_of R.ShortBuffer = 10
reply_of R.Valuation = 11

-- of a header: 0 where it is right
abbrev pub first_reply : Result (Unit {0}) Reason → ℕ
first_reply (Ok u) = 0
first_reply (Err reason) = reply_of reason

-- the length of the record that the bytes begin with, if it is there
abbrev pub frame_in : List ℕ → Option ℕ
frame_in bs = cond (eqb (frame bs) 0) None (Some (frame bs))

-- what is wrong with a record: a reply, 0 for nothing, and the byte that it points at, counted from the record's first
pub record Fault : Type 0 where
  pub reply : ℕ
  pub from : ℕ

-- how far the records of a file are read: a reply with its offset, 0 if all are there and nothing after them; and the number of records
-- that are read before it
pub record Reading : Type 0 where
  pub reply : ℕ
  pub offset : ℕ
  pub count : ℕ

-- what the code says of a refusal, in a record of `len` bytes after its length
abbrev pub fault_at : (len : ℕ) → Refusal → Fault
fault_at len (AtRecord r) = record { reply = r; from = 0 }
fault_at len (AtToken left) = record { reply = 7; from = 2 + len - left }

-- no fault
abbrev pub fine : Fault
fine = record { reply = 0; from = 0 }

-- what the code's answer says of a record
abbrev pub fault_in : Result (Unit {0}) Code.Refusal → Fault
fault_in (Ok u) = fine
fault_in (Err f) = record { reply = reply_of f.reason; from = f.offset }

abbrev pub fault_of : {A : Type 0} → (len : ℕ) → Body A → Fault
fault_of len (Good a) = fine
fault_of len (Bad r) = fault_at len r

abbrev pub is_good : {A : Type 0} → Body A → Bool
is_good (Good a) = true
is_good (Bad r) = false

-- of the expression that ends a record
abbrev pub expr_fault : (len : ℕ) → Parsed → Fault
expr_fault len (Whole e) = fine
expr_fault len (Breaks bs) = fault_at len (AtToken (length bs))

-- how a run, or the judging of a trace, ends
abbrev pub outcome_of : Result (Unit {0}) Failure → Outcome
outcome_of (Ok u) = Ended
outcome_of (Err f) = Failed f.kind f.place

-- a test's kind by its code
abbrev pub kind_of : (code : ℕ) → Kind
kind_of k = cond (eqb k 3) Assert Assume

-- the bytes of the record at an offset, from one of them on
abbrev pub rest_of : (s : List ℕ) (at from : ℕ) → List ℕ
rest_of s at from = take (2 + number_of 2 (drop at s) - from) (drop (at + from) s)

-- ---- record after record

-- where records stand: the offsets of c of them, from `at` on
unfoldable pub offsets_from : (c at : ℕ) → List ℕ → List ℕ
offsets_from zero at bs = []
offsets_from (suc c) at bs = at ∷ offsets_from c (at + (2 + frame bs)) (drop (2 + frame bs) bs)

-- and of a file's first c records
abbrev pub offsets_in : (c : ℕ) (s : List ℕ) → List ℕ
offsets_in c s = offsets_from c (header_size s) (after_header s)

-- what the code's answer says of a file's records
abbrev pub reading_in : Result ℕ Unread → Reading
reading_in (Ok n) = record { reply = 0; offset = 0; count = n }
reading_in (Err u) = record { reply = reply_of u.why.reason; offset = u.why.offset; count = u.count }

-- in a file of `total` bytes, with `count` records read
abbrev pub reading_of : {A : Type 0} → (total count : ℕ) → Records A → Reading
reading_of total count (Read xs) = record { reply = 0; offset = 0; count = count }
reading_of total count (Stop r bs) = record { reply = r; offset = total - length bs; count = count }

module _ {A St : Type 0} (one : St → List ℕ → Body A) (next : St → A → St) where
  abbrev pub one_more : Body A → (A → ℕ) → ℕ
  one_more (Good a) rest = suc (rest a)
  one_more (Bad r) rest = 0

  -- of c records, how many are read before the first refusal
  unfoldable pub read_count : (c : ℕ) → St → List ℕ → ℕ
  read_count zero σ bs = 0
  read_count (suc c) σ bs = one_more (record_of (one σ) bs) (λ a. read_count c (next σ a) (drop (2 + frame bs) bs))

  -- the reading of the n records after a header, with the offsets of those that are read stored
  pub record ReadRecords (s : List ℕ) (n : ℕ) (σ : St) (before after : List ℕ) (r : Result ℕ Unread) : Type 0 where
    pub answer : reading_in r ≡ reading_of (length s) (read_count n σ (after_header s)) (records one next n σ (after_header s))
    pub stored : after ≡ sets before 0 (offsets_in (reading_in r).count s)

-- ---- a whole file

abbrev pub is_accepted : {A : Type 0} → Input A → Bool
is_accepted (Accepted head xs) = true
is_accepted (Refused r o) = false

abbrev pub listed : {A : Type 0} → Input A → List A
listed (Accepted head xs) = xs
listed (Refused r o) = []

-- in a file of which `count` records are read
abbrev pub file_reading : {A : Type 0} → (count : ℕ) → Input A → Reading
file_reading count (Accepted head xs) = record { reply = 0; offset = 0; count = count }
file_reading count (Refused r at) = record { reply = r; offset = at; count = count }

-- of a file's records, how many are read before the first refusal
abbrev pub file_count : {A St : Type 0} → (known : ℕ → Bool) (limit : ℕ) → (one : (head : Head) (n : ℕ) → St → List ℕ → Body A)
    → (next : St → A → St) → (first : (head : Head) → St) → List ℕ → ℕ
file_count known limit one next first s =
    cond (eqb (header_reply known limit s) 0)
    (read_count (one (head_of s) (header_count s)) next (header_count s) (first (head_of s)) (after_header s)) 0

-- the reading of a file, with the offsets of the records that are read stored
pub record ReadFile {A : Type 0} (file : Input A) (count : ℕ) (s before after : List ℕ) (r : Result ℕ Unread) : Type 0 where
  pub answer : reading_in r ≡ file_reading count file
  pub stored : after ≡ sets before 0 (offsets_in count s)

-- a file that is accepted, with its n records' offsets stored
pub record Ready {A : Type 0} (file : Input A) (s offsets : List ℕ) (n : ℕ) : Type 0 where
  pub accepted : is_accepted file ≡ true
  pub count : n ≡ header_count s
  pub room : n ≤ length offsets
  pub stored : (i : ℕ) → i < n → get_or offsets i 0 ≡ get_or (offsets_in n s) i 0
