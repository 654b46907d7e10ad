-- Document 01, "The slice": kept records stay byte for byte, in order, with their numbers; the header's length and count are new.
--
-- Stated on bytes: a trace's bytes after the header are cut by their length fields, and the slice is made of those very pieces whose
-- statements are kept, behind a header with their length and count. Why: an accepted trace is what is written of its statements
-- (`encode-read`), so its pieces are the records of its statements, and `keep` picks the slice's out of them.
--
-- And nothing idle is kept: in a slice every Assign's symbol is read behind it, and every Assume has an Assert behind it.
use Rattle.std.specs.Prelude.{ℕ, zero, suc, ◌+◌, ◌<◌, ◌≡◌, refl, Bool, true, false, cond, ◌||◌, List, [], ◌∷◌, ◌++◌, map, length, take}
use Rattle.std.specs.Prelude.{drop, leb}
use Rattle.std.proofs.Common.{arith, sym, ap, ap₂, ◌∙◌, length-append, take_at, drop_at}
use Rattle.expr.specs.Lists.{All}
use Rattle.expr.specs.Number.{Byte, number_of}
use Rattle.expr.specs.NumberLaws.{number-written}
use Rattle.file.specs.File.{Head, head_size, header_count, after_header, Accepted, header, record_bytes, records_bytes, encode}
use Rattle.file.proofs.EncodeLaws.{encode-length, encode-count, encode-after}
use Rattle.trace.specs.Trace.{Stmt, Assign, Test, read_trace, stmt_bytes, encode_trace, reads_trace}
use Rattle.trace.specs.TraceLaws.{trace_short}
use Rattle.trace.specs.WellFormed.{trace_ok}
use Rattle.trace.specs.EncodeLaws.{encode-read}
use Rattle.trace.specs.Asserts.{is_assert, has_assert}
use Rattle.slice.specs.Slice.{keep, slice}
use Rattle.slice.specs.Answer.{slice_of, refusal, answered, slice_answer}
use Rattle.slice.proofs.SliceLaws.{slice-asserts}

-- ---- pieces of bytes

-- c records, each with its two bytes of length
abbrev pub cut : (c : ℕ) → List ℕ → List (List ℕ)
cut zero bs = []
cut (suc c) bs = take (2 + number_of 2 bs) bs ∷ cut c (drop (2 + number_of 2 bs) bs)

-- the records of a file, as many as its header says
abbrev pub records_of : (file : List ℕ) → List (List ℕ)
records_of file = cut (header_count file) (after_header file)

abbrev pub joined : List (List ℕ) → List ℕ
joined [] = []
joined (p ∷ ps) = p ++ joined ps

-- those whose flags are set
abbrev pub picked : List Bool → List (List ℕ) → List (List ℕ)
picked [] ps = []
picked (b ∷ bs) [] = []
picked (b ∷ bs) (p ∷ ps) = cond b (p ∷ picked bs ps) (picked bs ps)

-- for each statement, if it is kept
abbrev pub flags : List Stmt → List Bool
flags [] = []
flags (t ∷ ts) = keep t ts (slice ts) ∷ flags ts

-- ---- an accepted trace's pieces are its statements' records

abbrev pieces : List Stmt → List (List ℕ)
pieces ts = map (record_bytes stmt_bytes) ts

cut-records : (ts : List Stmt) → length (records_bytes stmt_bytes ts) < 65536 → cut (length ts) (records_bytes stmt_bytes ts) ≡ pieces ts
cut-records [] h = refl
cut-records (t ∷ ts) h =
    let one = record_bytes stmt_bytes t in
    let rest = records_bytes stmt_bytes ts in
    let l = length (stmt_bytes t) in
    let n = length ts in
    let sum : length (one ++ rest) ≡ 2 + length (stmt_bytes t) + length rest = omega (arith, length-append one rest) in
    let size : number_of 2 (one ++ rest) ≡ length (stmt_bytes t) = number-written 2 l (stmt_bytes t ++ rest) (omega arith) in
    let long : length (record_bytes stmt_bytes t) ≡ 2 + length (stmt_bytes t) = omega arith in
    ap (λ l. take (2 + l) (one ++ rest) ∷ cut n (drop (2 + l) (one ++ rest))) size
    ∙ ap₂ {C = List (List ℕ)} (λ p q. p ∷ cut n q) (take_at one rest (2 + l) long) (drop_at one rest (2 + l) long)
    ∙ ap {B = List (List ℕ)} (λ q. one ∷ q) (cut-records ts (omega arith))

pub trace_records : (t : List ℕ) (head : Head) (ts : List Stmt) → All Byte t → read_trace t ≡ Accepted head ts
    → records_of t ≡ map (record_bytes stmt_bytes) ts
trace_records t head ts o h =
    let bytes : encode_trace head ts ≡ t = encode-read t head ts o h in
    let few = trace_short t head ts o h in
    let total = encode-length stmt_bytes head ts in
    let limit = (trace_ok t head ts o h).few in
    ap records_of (sym bytes)
    ∙ ap₂ cut (encode-count stmt_bytes head ts (omega (arith, limit))) (encode-after stmt_bytes head ts)
    ∙ cut-records ts (omega (arith, ap length bytes, total))

-- ---- of which the slice has those that are kept

picked-records : (ts : List Stmt) → picked (flags ts) (pieces ts) ≡ pieces (slice ts)
unfolding slice
picked-records [] = refl
picked-records (t ∷ ts) = go (keep t ts (slice ts)) (picked-records ts)
  where
    go : (b : Bool) → picked (flags ts) (pieces ts) ≡ pieces (slice ts)
        → picked (b ∷ flags ts) (pieces (t ∷ ts)) ≡ pieces (cond b (t ∷ slice ts) (slice ts))
    go true ih = ap {B = List (List ℕ)} (λ q. record_bytes stmt_bytes t ∷ q) ih
    go false ih = ih

records-joined : (ts : List Stmt) → joined (pieces ts) ≡ records_bytes stmt_bytes ts
records-joined [] = refl
records-joined (t ∷ ts) = ap (λ q. record_bytes stmt_bytes t ++ q) (records-joined ts)

records-counted : (ts : List Stmt) → length (pieces ts) ≡ length ts
records-counted [] = refl
records-counted (t ∷ ts) = ap suc (records-counted ts)

-- a file of these records: a header with their length and count, and they
abbrev pub file_of : (head : Head) → List (List ℕ) → List ℕ
file_of head ps = header head (head_size head.version + length (joined ps)) (length ps) ++ joined ps

encode-pieces : (head : Head) (ts : List Stmt) → encode_trace head ts ≡ file_of head (pieces ts)
unfolding encode
encode-pieces head ts =
    ap₂ (λ r n. header head (head_size head.version + length r) n ++ r) (sym (records-joined ts)) (sym (records-counted ts))

-- a slice that is answered is the file of those of its trace's records that are kept
pub slice-keeps-bytes : (t : List ℕ) (room : ℕ) (head : Head) (ts : List Stmt) → All Byte t → read_trace t ≡ Accepted head ts
    → (slice_answer t room).reply ≡ 0 → (slice_answer t room).bytes ≡ file_of head (picked (flags ts) (records_of t))
unfolding slice_answer
slice-keeps-bytes t room head ts o h done =
    ap (λ i. (answered room i).bytes) h
    ∙ go (leb (length (encode_trace head (slice ts))) room) (ap (λ i. (answered room i).reply) (sym h) ∙ done)
  where
    go : (b : Bool) → (cond b (slice_of head (slice ts)) (refusal 10 0)).reply ≡ 0
        → (cond b (slice_of head (slice ts)) (refusal 10 0)).bytes ≡ file_of head (picked (flags ts) (records_of t))
    go true z =
        encode-pieces head (slice ts)
        ∙ ap (file_of head) (sym (picked-records ts) ∙ ap (picked (flags ts)) (sym (trace_records t head ts o h)))
    go false z = absurd (omega arith)

-- ---- nothing idle is kept

-- every Assign's symbol is read behind it, and every Assume has an Assert behind it
abbrev pub Needed : List Stmt → Type 0
Needed [] = Unit {0}
Needed (Assign p x e ∷ ts) = (reads_trace x ts ≡ true) × Needed ts
Needed (Test k p e ∷ ts) = ((is_assert k || has_assert ts) ≡ true) × Needed ts

pub slice_needed : (ts : List Stmt) → Needed (slice ts)
unfolding slice
slice_needed [] = tt
slice_needed (Assign p x e ∷ ts) = go (reads_trace x (slice ts)) refl (slice_needed ts)
  where
    go : (b : Bool) → reads_trace x (slice ts) ≡ b → Needed (slice ts) → Needed (cond b (Assign p x e ∷ slice ts) (slice ts))
    go true q ih = (q, ih)
    go false q ih = ih
slice_needed (Test k p e ∷ ts) = go (is_assert k || has_assert ts) refl (slice_needed ts)
  where
    go : (b : Bool) → (is_assert k || has_assert ts) ≡ b → Needed (slice ts) → Needed (cond b (Test k p e ∷ slice ts) (slice ts))
    go true q ih = (ap (λ b. is_assert k || b) (slice-asserts ts) ∙ q, ih)
    go false q ih = ih
