-- Demand 3, as the user put it:
--
--   "For every accepted table, every bound for which its trace can be written, and every valuation of the right length: the table reaches a
--   failing assertion, with no more back jumps than the bound allows, exactly if the whole trace is violated and exactly if its slice is
--   violated, and all three name one and the same place. Two valuations that agree on the inputs the slice reports as read get one verdict
--   and one place."
--
-- and, since 2026-01: run and whole trace agree on all four verdicts and the place; slice and two valuations on unsafe or not, and the
-- place.
--
-- It is stated over bytes and over the answers that the public calls are proved to give: running and judging with a valuation as words or
-- as bytes (`ran_with`, `judged_with`), `trace_answer` of writing a trace, `slice_answer` of slicing. That the numbers of a valuation are
-- words, or bytes, is not needed. Demand3Proof proves `Demand3` for every table, bound and room for which writing the trace answers 0.
use Rattle.std.specs.Prelude.{ℕ, ◌+◌, ◌*◌, ◌≤◌, ◌<◌, ◌≡◌, ◌↔◌, cond, List, eqb, length}
use Rattle.expr.specs.Word.{bit}
use Rattle.file.specs.Outcome.{Assume}
use Rattle.file.specs.File.{header_inputs, header_count}
use Rattle.file.specs.Shown.{listed}
use Rattle.table.specs.declared.Answer as Ran
use Rattle.table.specs.Table.{read_table}
use Rattle.trace.specs.declared.Answer as Judged
use Rattle.trace.specs.Trace.{old_version, encode_trace}
use Rattle.unwind.specs.Unwind.{unwind}
use Rattle.slice.specs.Answer.{Sliced, slice_answer}
use Rattle.demands.specs.Valuation.{Handed, length_for, input_in, ran_with, judged_with}

-- ---- what an answer says

-- unsafe at place p: reply 0 is done, verdict 1 is unsafe
abbrev pub RunUnsafeAt : (p : ℕ) → Ran.Answer → Type 0
RunUnsafeAt p a = (a.reply ≡ 0) × (a.verdict ≡ 1) × (a.place ≡ p)

abbrev pub UnsafeAt : (p : ℕ) → Judged.Answer → Type 0
UnsafeAt p a = (a.reply ≡ 0) × (a.verdict ≡ 1) × (a.place ≡ p)

-- one verdict, of all four, and one place; with a cut shown as it is, or as 2, stopped
abbrev pub Same : (shown : ℕ → ℕ) → Ran.Answer → Judged.Answer → Type 0
Same shown a j = (a.reply ≡ j.reply) × (shown a.verdict ≡ j.verdict) × (a.place ≡ j.place)

abbrev pub as_is : (verdict : ℕ) → ℕ
as_is verdict = verdict

abbrev pub cut_as_stopped : (verdict : ℕ) → ℕ
cut_as_stopped verdict = cond (eqb verdict 3) 2 verdict

-- unsafe or not, and one place (two runs may still take different numbers of back jumps, and end differently where they are not unsafe)
abbrev pub RunAlike : (a a' : Ran.Answer) → Type 0
RunAlike a a' = ((a.verdict ≡ 1) ↔ (a'.verdict ≡ 1)) × (a.place ≡ a'.place)

abbrev pub Alike : (a a' : Judged.Answer) → Type 0
Alike a a' = ((a.verdict ≡ 1) ↔ (a'.verdict ≡ 1)) × (a.place ≡ a'.place)

-- with no more back jumps than the bound allows, at an instruction i of the copy that the r back jumps have come to: r × (n + 1) + i
pub record Within (n K : ℕ) (a : Ran.Answer) : Type 0 where
  pub few : a.back_jumps ≤ K
  pub instruction : ℕ
  pub inside : instruction < n
  pub place : a.place ≡ a.back_jumps * (n + 1) + instruction

-- ---- run, trace and slice

-- two valuations of the table's inputs that agree on those whose bits are set in a mask
pub record AgreeOn (h : Handed) (S mask : ℕ) (v w : List ℕ) : Type 0 where
  pub first-length : length v ≡ length_for h S
  pub second-length : length w ≡ length_for h S
  pub read-inputs : (s : ℕ) → s < S → bit s mask ≡ 1 → input_in h v s ≡ input_in h w s

-- the table's bytes b under bound K, the trace's bytes t, and the answer q to slicing them
pub record OneAnswer (h : Handed) (b : List ℕ) (K : ℕ) (t : List ℕ) (q : Sliced) : Type 0 where
  -- a valuation of the right length is not refused: not by running, nor by judging the trace, nor by judging its slice
  pub none_refused : (v : List ℕ) → length v ≡ length_for h (header_inputs b)
      → ((ran_with h b K v).reply ≡ 0) × ((judged_with h t v).reply ≡ 0) × ((judged_with h q.bytes v).reply ≡ 0)
  -- running the table and judging the whole trace give one verdict and one place (for every valuation: one of a wrong length is refused by
  -- all three)
  pub one-verdict : (v : List ℕ) → Same as_is (ran_with h b K v) (judged_with h t v)
  -- so the table reaches a failing assertion exactly if the whole trace is violated, at one and the same place
  pub run_trace : (v : List ℕ) (p : ℕ) → RunUnsafeAt p (ran_with h b K v) ↔ UnsafeAt p (judged_with h t v)
  -- and exactly if its slice is violated, at that same place
  pub run-slice : (v : List ℕ) (p : ℕ) → RunUnsafeAt p (ran_with h b K v) ↔ UnsafeAt p (judged_with h q.bytes v)
  -- with no more back jumps than the bound allows
  pub within : (v : List ℕ) (p : ℕ) → RunUnsafeAt p (ran_with h b K v) → Within (header_count b) K (ran_with h b K v)
  -- two valuations that agree on the inputs that the slice reports as read are both unsafe or both not, and have one place, in all three
  pub read-decides : (v w : List ℕ) → AgreeOn h (header_inputs b) q.mask v w
      → RunAlike (ran_with h b K v) (ran_with h b K w)
      × Alike (judged_with h t v) (judged_with h t w)
      × Alike (judged_with h q.bytes v) (judged_with h q.bytes w)

-- the trace of the table b under bound K as it was written under version 129, with Assumes for the bound's tests
abbrev pub old_trace : (b : List ℕ) (K : ℕ) → List ℕ
old_trace b K =
    encode_trace (record { version = old_version; inputs = header_inputs b }) (unwind Assume (header_inputs b) (listed (read_table b)) K)

-- t is the trace that is written of the table b under bound K
pub record Demand3 (b : List ℕ) (K : ℕ) (t : List ℕ) : Type 0 where
  -- slicing it refuses nothing, given as much room as the trace takes
  pub sliced : (room : ℕ) → length t ≤ room → (slice_answer t room).reply ≡ 0
  -- and whenever it is sliced, in whatever room, run, trace and slice answer alike, for valuations of words and of bytes
  pub alike : (h : Handed) (room : ℕ) → (slice_answer t room).reply ≡ 0 → OneAnswer h b K t (slice_answer t room)
  -- the trace of version 129 is still judged as the run, but that a cut shows as stopped
  pub old : (h : Handed) (v : List ℕ) → Same cut_as_stopped (ran_with h b K v) (judged_with h (old_trace b K) v)
