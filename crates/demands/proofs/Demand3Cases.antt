-- Demand 3 is not empty: the small rule, and two valuations that agree on what the slice reads and differ elsewhere.
use Prim.Native.Nat.{ℕ, zero, suc, ◌<◌}
use native.Mathlib.Omega.{arith}
use mathlib.Core.Path.{◌≡◌, refl, sym, ap, subst}
use mathlib.Core.Logic.{◌↔◌}
use mathlib.Core.List.{List, [], ◌∷◌}
use lib.ListN.{length, get_or}
use lib.Dec.{ltb}
use borrow.Author.Tests.{ltb-true}
use Rattle.expr.specs.Lists.{All, all-at, every-below}
use Rattle.expr.specs.Number.{Byte}
use Rattle.expr.specs.Token.{operator, read_token}
use Rattle.expr.specs.Expr.{fits, parse_from}
use Rattle.expr.specs.Word.{bit}
use Rattle.file.specs.File.{header_reply, frame, record_of, records, read_file, encode}
use Rattle.table.specs.Table.{instr, read_table}
use Rattle.table.specs.Cases.{small_rule, m1}
use Rattle.trace.specs.Trace.{stmt, read_trace}
use Rattle.unwind.specs.Places.{places}
use Rattle.unwind.specs.Unwind.{unwind}
use Rattle.unwind.specs.Answer.{trace_answer}
use Rattle.unwind.specs.Cases.{m5}
use Rattle.slice.specs.Slice.{slice}
use Rattle.slice.specs.Answer.{Sliced, slice_answer}
use Rattle.demands.specs.Valuation.{Handed, Words, Bytes, input_in, ran_with, judged_with}
use Rattle.demands.specs.Demand3.{RunUnsafeAt, UnsafeAt, RunAlike, Alike, AgreeOn, OneAnswer, Demand3}
use Rattle.demands.proofs.Demand3Proof.{demand3}
use Rattle.file.specs.File.{head_size, header_inputs, header_count, inputs_limit, input_room, header}
use Rattle.table.specs.Table.{is_table}
use Rattle.trace.specs.Trace.{is_trace, trace_version, old_version, tells_bound}

-- ---- trace and slice, through the run

-- the whole trace is violated at a place exactly if its slice is
pub trace_slice : {h : Handed} {b : List ℕ} {K : ℕ} {t : List ℕ} {q : Sliced} → OneAnswer h b K t q → (v : List ℕ) (p : ℕ)
    → UnsafeAt p (judged_with h t v) ↔ UnsafeAt p (judged_with h q.bytes v)
trace_slice a v p = (λ u. (a.run-slice v p).0 ((a.run_trace v p).1 u), λ u. (a.run_trace v p).0 ((a.run-slice v p).1 u))

-- ---- the small rule

abbrev small_trace : List ℕ
small_trace = (trace_answer small_rule 0 156).bytes

small_bytes : All Byte small_rule
small_bytes = all-at Byte small_rule (λ i h. ltb-true (get_or small_rule i 0) 256
    (every-below 44 (λ i. ltb (get_or small_rule i 0) 256) refl i h))

-- under K = 0 its trace can be written into 156 bytes: m5 computes it
small-written : (trace_answer small_rule 0 156).reply ≡ 0
small-written = ap (λ a. a.reply) m5.0

pub small_demand : Demand3 small_rule 0 small_trace
small_demand = demand3 small_rule 0 156 small_bytes small-written

small-sliced : (slice_answer small_trace 156).reply ≡ 0
small-sliced = small_demand.sliced 156 (omega (arith, ap (λ a. length a.bytes) m5.0))

-- for x = 0 running is unsafe at 3 (m1), and so is judging the slice
pub small-unsafe : UnsafeAt 3 (judged_with Words (slice_answer small_trace 156).bytes (0 ∷ []))
small-unsafe = ((small_demand.alike Words 156 small-sliced).run-slice (0 ∷ []) 3).0 (subst (RunUnsafeAt 3) (sym m1) (refl, refl, refl))

-- and for no x is judging it refused
pub small-accepted : (x : ℕ) → (judged_with Words (slice_answer small_trace 156).bytes (x ∷ [])).reply ≡ 0
unfolding header_inputs
small-accepted x = ((small_demand.alike Words 156 small-sliced).none_refused (x ∷ []) refl).2

-- ---- of two inputs, assert s0: the slice reads the first alone

abbrev first_asserted : List ℕ
first_asserted = 0x01 ∷ 0x00 ∷ 0x0B ∷ 0x02 ∷ 0x00 ∷ 0x01 ∷ 0x00 ∷ 0x03 ∷ 0x03 ∷ 0x02 ∷ 0x00 ∷ []

abbrev first_trace : List ℕ
first_trace = (trace_answer first_asserted 0 100).bytes

first-bytes : All Byte first_asserted
first-bytes =
    all-at Byte first_asserted (λ i h. ltb-true (get_or first_asserted i 0) 256
    (every-below 11 (λ i. ltb (get_or first_asserted i 0) 256) refl i h))

first-written : (trace_answer first_asserted 0 100).reply ≡ 0
unfolding trace_answer trace_version read_table is_table read_file header_reply head_size header_inputs header_count inputs_limit input_room
    records
    record_of frame instr parse_from read_token operator fits unwind places encode header
first-written = refl

first-sliced : ((slice_answer first_trace 100).reply ≡ 0) × ((slice_answer first_trace 100).mask ≡ 1)
unfolding trace_answer trace_version read_table is_table read_file header_reply head_size header_inputs header_count inputs_limit input_room
    records
    record_of frame instr parse_from read_token operator fits unwind places encode header slice_answer read_trace is_trace old_version
    tells_bound stmt slice
first-sliced = (refl, refl)

-- s0 is 5, and s1 is s
abbrev five_and : Handed → (s : ℕ) → List ℕ
five_and Words s = 5 ∷ s ∷ []
five_and Bytes s = 0x00 ∷ 0x00 ∷ 0x00 ∷ 0x05 ∷ 0x00 ∷ 0x00 ∷ 0x00 ∷ s ∷ []

-- they agree on the inputs of the mask 1, whatever s1 is
pub agree_elsewhere : (h : Handed) → AgreeOn h 2 1 (five_and h 6) (five_and h 7)
agree_elsewhere Words = record { first-length = refl; second-length = refl; read-inputs = go }
  where
    go : (s : ℕ) → s < 2 → bit s 1 ≡ 1 → input_in Words (five_and Words 6) s ≡ input_in Words (five_and Words 7) s
    go zero l b = refl
    go (suc zero) l b = absurd (omega arith)
    go (suc (suc s)) l b = absurd (omega arith)
agree_elsewhere Bytes = record { first-length = refl; second-length = refl; read-inputs = go }
  where
    go : (s : ℕ) → s < 2 → bit s 1 ≡ 1 → input_in Bytes (five_and Bytes 6) s ≡ input_in Bytes (five_and Bytes 7) s
    go zero l b = refl
    go (suc zero) l b = absurd (omega arith)
    go (suc (suc s)) l b = absurd (omega arith)

-- so all three are unsafe for both or for neither, at one place
pub one-verdict_elsewhere : (h : Handed)
    → RunAlike (ran_with h first_asserted 0 (five_and h 6)) (ran_with h first_asserted 0 (five_and h 7))
    × Alike (judged_with h first_trace (five_and h 6)) (judged_with h first_trace (five_and h 7))
    × Alike (judged_with h (slice_answer first_trace 100).bytes (five_and h 6))
    (judged_with h (slice_answer first_trace 100).bytes (five_and h 7))
unfolding header_inputs
one-verdict_elsewhere h =
    ((demand3 first_asserted 0 100 first-bytes first-written).alike h 100 first-sliced.0).read-decides (five_and h 6) (five_and h 7)
    (subst (λ m. AgreeOn h 2 m (five_and h 6) (five_and h 7)) (sym first-sliced.1) (agree_elsewhere h))
