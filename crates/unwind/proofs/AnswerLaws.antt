-- The laws of the answer to unwinding: that a trace was written says everything of the table, the bound and the bytes.
use Rattle.std.specs.Prelude.{ℕ, ◌≤◌, ◌≡◌, refl, Bool, true, false, cond, ◌&&◌, List, length, leb}
use Rattle.std.proofs.Common.{arith, ap, ◌∙◌, leb-true}
use Rattle.expr.specs.Lists.{All, and_both}
use Rattle.expr.specs.Number.{Byte}
use Rattle.file.specs.Outcome.{Bound}
use Rattle.file.specs.File.{Head, Input, Accepted, Refused}
use Rattle.table.specs.Table.{Instr, read_table}
use Rattle.table.specs.TableLaws.{table-refused_positive, table-ok}
use Rattle.trace.specs.Trace.{Stmt, read_trace, trace_head, encode_trace}
use Rattle.unwind.specs.Unwind.{unwind}
use Rattle.unwind.proofs.UnwindLaws.{unwind-accepted}
use Rattle.unwind.specs.Answer.{Traced, refusal, answered, trace_answer}

-- t is the trace of the accepted table b under K, within the limits
pub record IsTrace (b : List ℕ) (K : ℕ) (head : Head) (is : List Instr) (t : List ℕ) : Type 0 where
  pub accepted : read_table b ≡ Accepted head is
  pub bound : K ≤ 255
  pub count : length (unwind Bound head.inputs is K) ≤ 4096
  pub total : length (encode_trace (trace_head head.inputs) (unwind Bound head.inputs is K)) ≤ 65535
  pub bytes : t ≡ encode_trace (trace_head head.inputs) (unwind Bound head.inputs is K)

module _ (b : List ℕ) (K : ℕ) (head : Head) (is : List Instr) where
  abbrev ts : List Stmt
  ts = unwind Bound head.inputs is K

  abbrev bytes : List ℕ
  bytes = encode_trace (trace_head head.inputs) ts

  -- the answer, by the tests for 8, 9 and 10
  abbrev tested : (x y z : Bool) → Traced
  tested x y z =
      cond x (cond y (cond z (record { reply = 0; offset = 0; bytes = bytes }) (refusal 10 0)) (refusal 9 0)) (refusal 8 0)

  tests_passed : read_table b ≡ Accepted head is
      → (x : Bool) → leb K 255 ≡ x
      → (y : Bool) → (leb (length ts) 4096 && leb (length bytes) 65535) ≡ y
      → (z : Bool) → (tested x y z).reply ≡ 0 → IsTrace b K head is (tested x y z).bytes
  tests_passed a false e y f z h = absurd (omega arith)
  tests_passed a true e false f z h = absurd (omega arith)
  tests_passed a true e true f false h = absurd (omega arith)
  tests_passed a true e true f true h =
      let l = and_both (leb (length ts) 4096) (leb (length bytes) 65535) f in
      record {
        accepted = a;
        bound = leb-true K 255 e;
        count = leb-true (length ts) 4096 l.0;
        total = leb-true (length bytes) 65535 l.1;
        bytes = refl;
      }

pub trace_written : (b : List ℕ) (K room : ℕ) → (trace_answer b K room).reply ≡ 0
    → (head : Head) × (is : List Instr) × IsTrace b K head is (trace_answer b K room).bytes
unfolding trace_answer
trace_written b K room h = go (read_table b) refl h
  where
    go : (i : Input Instr) → read_table b ≡ i → (answered K room i).reply ≡ 0
        → (head : Head) × (is : List Instr) × IsTrace b K head is (answered K room i).bytes
    go (Refused r at) q h = absurd (omega (arith, table-refused_positive b r at q))
    go (Accepted head is) q h = (
      head,
      is,
      tests_passed b K head is q (leb K 255) refl _ refl
          (leb (length (encode_trace (trace_head head.inputs) (unwind Bound head.inputs is K))) room) h,
    )

-- reading gives back what was written
pub trace_read : (b : List ℕ) (K : ℕ) (head : Head) (is : List Instr) (t : List ℕ) → All Byte b → IsTrace b K head is t
    → read_trace t ≡ Accepted (trace_head head.inputs) (unwind Bound head.inputs is K)
trace_read b K head is t o w =
    let table = table-ok b head is o w.accepted in
    ap read_trace w.bytes ∙ unwind-accepted head.inputs is K table.ok table.inputs w.count w.total
