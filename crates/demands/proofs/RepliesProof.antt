-- Demand 1 is true of the calls' answers, the calls from C too. The steps, and why each is:
--
-- 1. The order is an order. The rows that can hold have ranks of their own (`RowOrder`), so two rows that are both first are one row; and
--    a file is cleared of its rows one rank after the other. Hence a call that answers with the number and offset of a first row, or with 0
--    where no row holds, meets demand 1 (`first_demand`).
-- 2. One record is read as its rows decide (`RecordReplies`). It is there, its kind is known and its fields are long enough exactly if no
--    row 5 of it holds; the reader's next test is row 6; what is then parsed is an expression exactly if row 7 does not hold, since parsing
--    accepts just the bytes that an expression's tokens write. What a trace's reader knows after k statements is what the first k records
--    say: the symbols that they assign may be read, and the next one is greater than all of them.
-- 3. So a file is (`FileReplies`). The header's tests are the rows 1 to 4, in their order. From record k on, with no row before it holding,
--    either record k is refused by its first row, at its first byte, or its three rows are cleared as well; behind the last record only
--    spare bytes are left to refuse.
-- 4. What a call tests after its file was accepted are its own rows, in their order, with S the header's and the list that was read.
use Prim.Native.Nat.{ℕ, ◌+◌, ◌*◌, ◌<◌}
use native.Mathlib.Omega.{arith}
use mathlib.Core.Path.{◌≡◌, refl, sym, ap, ap₂, ◌∙◌, subst, subst⁻¹}
use mathlib.Core.Logic.{◌↔◌}
use mathlib.Core.Bool.{Bool, true, false, cond, ◌&&◌}
use mathlib.Core.List.{List}
use lib.ListN.{length}
use lib.Dec.{eqb, leb}
use borrow.Author.Tests.{eqb-true, eqb-false, leb-true, leb-false, le-leb}
use Rattle.expr.specs.Lists.{and_both, both_and}
use Rattle.file.specs.Outcome.{Outcome}
use Rattle.file.specs.Outcome as Kinds
use Rattle.file.specs.File.{Head, header_inputs, header_count, Input, Accepted, Refused}
use Rattle.file.specs.Shown.{listed}
use Rattle.table.specs.Table.{Instr, read_table}
use Rattle.table.specs.TableLaws.{table-inputs}
use Rattle.table.specs.Run.{Ran, run}
use Rattle.table.specs.Answer as Running
use Rattle.table.specs.Answer.{run_answer}
use Rattle.trace.specs.Trace.{Stmt, read_trace, trace_head, encode_trace}
use Rattle.trace.specs.TraceLaws.{trace-head, trace_inputs}
use Rattle.trace.specs.Judge.{judge}
use Rattle.trace.specs.Answer as Judging
use Rattle.trace.specs.Answer.{judge_answer}
use Rattle.unwind.specs.Unwind.{unwind}
use Rattle.unwind.specs.Answer as Tracing
use Rattle.unwind.specs.Answer.{trace_answer}
use Rattle.slice.specs.Slice.{slice}
use Rattle.slice.specs.Answer as Slicing
use Rattle.slice.specs.Answer.{slice_answer}
use Rattle.script.specs.ScriptText.{script_text}
use Rattle.script.specs.Answer as Scripting
use Rattle.script.specs.Answer.{script_answer}
use Rattle.expr.specs.Eval.{env_of}
use Rattle.demands.specs.Valuation.{Handed, ran_with, judged_with}
use Rattle.demands.proofs.ValuationLaws.{words_in, words-length, ran-words, judged-words}
use Rattle.demands.specs.Replies.{record_at, Call, Run, Judge, WriteTrace, SliceTrace, WriteScript, file_of, bytes_of, result, When}
use Rattle.demands.specs.Replies.{Demand1}
use Rattle.demands.specs.Replies.{Row, Short, Version, Total, Limits, Frame, Rule, Expression, Spare, Bound, Size, Room, Valuation}
use Rattle.demands.specs.Replies.{number, Points, rank}
use Rattle.demands.proofs.RowOrder.{first-same, Clear, clear-past, clear-all}
use Rattle.demands.proofs.RecordReplies.{wording_once}
use Rattle.demands.proofs.FileReplies.{RefusedBy, FileReply, table-reply, trace_reply}

-- ---- a first row's number and offset are the answer

-- no row holds and the answer is 0 at 0, or the answer is that of the first row
data First (c : Call) (reply at : ℕ) : Type 0 where
  no_row : reply ≡ 0 → at ≡ 0 → ((row : Row) → When c row → ⊥) → First c reply at
  some_row : RefusedBy c reply at → First c reply at

number_positive : (row : Row) → 0 < number row
number_positive Short = omega arith
number_positive Version = omega arith
number_positive Total = omega arith
number_positive Limits = omega arith
number_positive (Frame k) = omega arith
number_positive (Rule k) = omega arith
number_positive (Expression k) = omega arith
number_positive Spare = omega arith
number_positive Bound = omega arith
number_positive Size = omega arith
number_positive Room = omega arith
number_positive Valuation = omega arith

-- a row points at one byte
points_once : (c : Call) (row : Row) (o p : ℕ) → Points c row o → Points c row p → o ≡ p
points_once c Short o p h k = h ∙ sym k
points_once c Version o p h k = h ∙ sym k
points_once c Total o p h k = h ∙ sym k
points_once c Limits o p h k = h ∙ sym k
points_once c (Frame r) o p h k = h ∙ sym k
points_once c (Rule r) o p h k = h ∙ sym k
points_once c (Expression r) o p h k = wording_once (file_of c) (bytes_of c) r (record_at (bytes_of c) r) o p h k
points_once c Spare o p h k = h ∙ sym k
points_once c Bound o p h k = h ∙ sym k
points_once c Size o p h k = h ∙ sym k
points_once c Room o p h k = h ∙ sym k
points_once c Valuation o p h k = h ∙ sym k

first_demand : (c : Call) (reply at : ℕ) → First c reply at → Demand1 c reply at
first_demand c reply at (no_row z o none) = record {
  done = (λ e. none, λ h. z);
  done-offset = λ e. o;
  refused = λ k p h. (λ e. absurd (omega (arith, e.0)), λ f. absurd (none f.0 f.3.holds));
}
first_demand c reply at (some_row (row, m, o, f)) = record {
  done = (λ e. absurd (omega (arith, number_positive row)), λ h. absurd (h row f.holds));
  done-offset = λ e. absurd (omega (arith, number_positive row));
  refused = λ k p h. (
    λ e. (row, m ∙ e.0, subst (Points c row) e.1 o, f),
    λ g. let same : g.0 ≡ row = first-same c row g.0 f g.3 in (
      sym m ∙ ap number (sym same) ∙ g.1,
      points_once c row at p o (subst (λ row. Points c row p) same g.2),
    ),
  );
}

-- a row that holds where none before it does
at_row : (c : Call) (row : Row) → Clear c (rank (header_count (bytes_of c)) row) → When c row → Points c row 0 → First c (number row) 0
at_row c row clear holds points = some_row (row, refl, points, record { holds = holds; none_before = clear })

-- the rows of the calls' own, one after the other
module _ (c : Call) where
  abbrev n : ℕ
  n = header_count (bytes_of c)

  no_bound : Clear c (5 + 3 * header_count (bytes_of c)) → (When c Bound → ⊥) → Clear c (6 + 3 * header_count (bytes_of c))
  no_bound = clear-past c Bound (6 + 3 * n) tt (omega arith)

  no_size : Clear c (6 + 3 * header_count (bytes_of c)) → (When c Size → ⊥) → Clear c (7 + 3 * header_count (bytes_of c))
  no_size = clear-past c Size (7 + 3 * n) tt (omega arith)

  no_room : Clear c (7 + 3 * header_count (bytes_of c)) → (When c Room → ⊥) → Clear c (8 + 3 * header_count (bytes_of c))
  no_room = clear-past c Room (8 + 3 * n) tt (omega arith)

  no_valuation : Clear c (8 + 3 * header_count (bytes_of c)) → (When c Valuation → ⊥) → (row : Row) → When c row → ⊥
  no_valuation clear h = clear-all c (clear-past c Valuation (9 + 3 * n) tt (omega arith) clear h)

-- ---- running: 8 and 11

module _ (h : Handed) (t : List ℕ) (K : ℕ) (v : List ℕ) where
  abbrev runs : Call
  runs = Run h t K v

  -- the valuation's words
  abbrev run_words : List ℕ
  run_words = words_in h (header_inputs t) v

  run-tested : (S : ℕ) → header_inputs t ≡ S → Clear runs (5 + 3 * header_count t)
      → (x : Bool) → leb K 255 ≡ x → (y : Bool) → eqb (length run_words) S ≡ y → (a : Ran) → First runs
      (cond x (cond y (Running.answer_of a) (Running.refusal 11 0)) (Running.refusal 8 0)).reply
      (cond x (cond y (Running.answer_of a) (Running.refusal 11 0)) (Running.refusal 8 0)).offset
  run-tested S i clear false e y f a = at_row runs Bound clear (leb-false K 255 e) refl
  run-tested S i clear true e y f a = go y f
    where
      bounded : Clear runs (8 + 3 * header_count t)
      bounded = no_room runs (no_size runs (no_bound runs clear (λ l. omega (arith, leb-true K 255 e))) (λ l. l)) (λ l. l)

      go : (y : Bool) → eqb (length run_words) S ≡ y → First runs
          (cond y (Running.answer_of a) (Running.refusal 11 0)).reply (cond y (Running.answer_of a) (Running.refusal 11 0)).offset
      go false f = at_row runs Valuation bounded (λ l. eqb-false (length run_words) S f ((words-length h (header_inputs t) v).1 l ∙ i)) refl
      go true f =
          no_row refl refl (no_valuation runs bounded
          (λ l. l ((words-length h (header_inputs t) v).0 (eqb-true (length run_words) S f ∙ sym i))))

  run-first : (i : Input Instr) → read_table t ≡ i → FileReply runs i
      → First runs (Running.answered K run_words i).reply (Running.answered K run_words i).offset
  run-first (Refused r at) q f = some_row f
  run-first (Accepted head is) q clear =
      run-tested head.inputs (table-inputs t head is q) clear (leb K 255) refl (eqb (length run_words) head.inputs) refl
      (run is K run_words)

  run-words_demand1 : Demand1 runs (run_answer t K run_words).reply (run_answer t K run_words).offset
  unfolding run_answer
  run-words_demand1 =
      first_demand runs (run_answer t K run_words).reply (run_answer t K run_words).offset
      (run-first (read_table t) refl (table-reply runs refl))

  pub run_demand1 : Demand1 (Run h t K v) (ran_with h t K v).reply (ran_with h t K v).offset
  run_demand1 = subst⁻¹ (λ a. Demand1 runs a.reply a.offset) (ran-words h t K v) (run-words_demand1)

-- ---- judging: 11

module _ (h : Handed) (t v : List ℕ) where
  abbrev judges : Call
  judges = Judge h t v

  -- the valuation's words
  abbrev judge_words : List ℕ
  judge_words = words_in h (header_inputs t) v

  judge-tested : (S : ℕ) → header_inputs t ≡ S → Clear judges (5 + 3 * header_count t) → (y : Bool) → eqb (length judge_words) S ≡ y
      → (a : Outcome)
      → First judges (cond y (Judging.answer_of a) (Judging.refusal 11 0)).reply
      (cond y (Judging.answer_of a) (Judging.refusal 11 0)).offset
  judge-tested S i clear y f a = go y f
    where
      unbounded : Clear judges (8 + 3 * header_count t)
      unbounded = no_room judges (no_size judges (no_bound judges clear (λ l. l)) (λ l. l)) (λ l. l)

      go : (y : Bool) → eqb (length judge_words) S ≡ y
          → First judges (cond y (Judging.answer_of a) (Judging.refusal 11 0)).reply
          (cond y (Judging.answer_of a) (Judging.refusal 11 0)).offset
      go false f =
          at_row judges Valuation unbounded (λ l. eqb-false (length judge_words) S f ((words-length h (header_inputs t) v).1 l ∙ i)) refl
      go true f =
          no_row refl refl (no_valuation judges unbounded
          (λ l. l ((words-length h (header_inputs t) v).0 (eqb-true (length judge_words) S f ∙ sym i))))

  judge-first : (i : Input Stmt) → read_trace t ≡ i → FileReply judges i → First judges (Judging.answered judge_words i).reply
      (Judging.answered judge_words i).offset
  judge-first (Refused r at) q f = some_row f
  judge-first (Accepted head ts) q clear =
      judge-tested head.inputs (trace_inputs t head ts q) clear (eqb (length judge_words) head.inputs) refl
      (judge ts (env_of judge_words))

  judge-words_demand1 : Demand1 judges (judge_answer t judge_words).reply (judge_answer t judge_words).offset
  unfolding judge_answer
  judge-words_demand1 =
      first_demand judges (judge_answer t judge_words).reply (judge_answer t judge_words).offset
      (judge-first (read_trace t) refl (trace_reply judges refl))

  pub judge_demand1 : Demand1 (Judge h t v) (judged_with h t v).reply (judged_with h t v).offset
  judge_demand1 = subst⁻¹ (λ a. Demand1 judges a.reply a.offset) (judged-words h t v) (judge-words_demand1)

-- ---- writing a trace: 8, 9 and 10

module _ (t : List ℕ) (K room : ℕ) where
  abbrev writing : Call
  writing = WriteTrace t K room

  -- the trace's statements
  abbrev unwound : List Stmt
  unwound = unwind Kinds.Bound (header_inputs t) (listed (read_table t)) K

  -- a trace of these statements and bytes, by the tests for 8, 9 and 10
  abbrev traced : (bytes : List ℕ) (x y z : Bool) → Tracing.Traced
  traced bytes x y z =
      cond x (cond y (cond z (record { reply = 0; offset = 0; bytes = bytes }) (Tracing.refusal 10 0)) (Tracing.refusal 9 0))
      (Tracing.refusal 8 0)

  trace_tested : (count : ℕ) (bytes : List ℕ) → length unwound ≡ count → result writing ≡ bytes → Clear writing (5 + 3 * header_count t)
      → (x : Bool) → leb K 255 ≡ x → (y : Bool) → (leb count 4096 && leb (length bytes) 65535) ≡ y → (z : Bool)
      → leb (length bytes) room ≡ z
      → First writing (traced bytes x y z).reply (traced bytes x y z).offset
  trace_tested count bytes i j clear false e y f z g = at_row writing Bound clear (leb-false K 255 e) refl
  trace_tested count bytes i j clear true e y f z g = go y f z g
    where
      total : length (result writing) ≡ length bytes
      total = ap length j

      bounded : Clear writing (6 + 3 * header_count t)
      bounded = no_bound writing clear (λ h. omega (arith, leb-true K 255 e))

      long : (leb count 4096 && leb (length bytes) 65535) ≡ false → When writing Size
      long f h =
          let few = le-leb count 4096 (omega (arith, h.0)) in
          let short = le-leb (length bytes) 65535 (omega (arith, h.1, total)) in
          let q = sym f ∙ both_and (leb count 4096) (leb (length bytes) 65535) few short in
          let z : ◌≡◌ {A = ℕ} 0 1 = cc in omega arith

      sized : (leb count 4096 && leb (length bytes) 65535) ≡ true → Clear writing (7 + 3 * header_count t)
      sized f =
          let k = and_both (leb count 4096) (leb (length bytes) 65535) f in
          no_size writing bounded (λ h. h (
            omega (arith, leb-true count 4096 k.0),
            omega
                (arith, leb-true (length bytes) 65535 k.1, total),
          ))

      go : (y : Bool) → (leb count 4096 && leb (length bytes) 65535) ≡ y → (z : Bool) → leb (length bytes) room ≡ z
          → First writing (traced bytes true y z).reply (traced bytes true y z).offset
      go false f z g = at_row writing Size bounded (long f) refl
      go true f false g = at_row writing Room (sized f) (omega (arith, leb-false (length bytes) room g, total)) refl
      go true f true g =
          no_row refl refl (no_valuation writing (no_room writing (sized f) (λ h. omega (arith, leb-true (length bytes) room g, total)))
          (λ h. h))

  trace_first : (i : Input Instr) → read_table t ≡ i → FileReply (WriteTrace t K room) i
      → First (WriteTrace t K room) (Tracing.answered K room i).reply (Tracing.answered K room i).offset
  trace_first (Refused r at) q f = some_row f
  trace_first (Accepted head is) q clear =
      let inputs = table-inputs t head is q in
      let S = head.inputs in
      let ts = unwind Kinds.Bound S is K in
      let bytes = encode_trace (trace_head S) ts in
      let same : unwound ≡ unwind Kinds.Bound head.inputs is K = ap₂ (λ S is. unwind Kinds.Bound S is K) inputs (ap listed q) in
      trace_tested (length ts) bytes (ap length same) (ap₂ (λ S ts. encode_trace (trace_head S) ts) inputs same) clear (leb K 255) refl
      (leb (length ts) 4096 && leb (length bytes) 65535) refl (leb (length bytes) room) refl

  pub write_trace_demand1 : Demand1 (WriteTrace t K room) (trace_answer t K room).reply (trace_answer t K room).offset
  unfolding trace_answer
  write_trace_demand1 =
      first_demand writing (trace_answer t K room).reply (trace_answer t K room).offset
      (trace_first (read_table t) refl (table-reply writing refl))

-- ---- slicing and writing a script: 10

-- of a call without bound, size and valuation, 10 where its result is longer than the room
module _ (c : Call) (room : ℕ) (unbound : When c Bound → ⊥) (unsized : When c Size → ⊥) (unvalued : When c Valuation → ⊥)
    (tight : When c Room ↔ (room < length (result c))) where
  fit-first : (bytes : List ℕ) → result c ≡ bytes → Clear c (5 + 3 * header_count (bytes_of c)) → (y : Bool) → leb (length bytes) room ≡ y
      → First c (cond y 0 10) 0
  fit-first bytes i clear y f = go y f
    where
      total : length (result c) ≡ length bytes
      total = ap length i

      sized : Clear c (7 + 3 * header_count (bytes_of c))
      sized = no_size c (no_bound c clear unbound) unsized

      go : (y : Bool) → leb (length bytes) room ≡ y → First c (cond y 0 10) 0
      go false f = at_row c Room sized (tight.1 (omega (arith, leb-false (length bytes) room f, total))) refl
      go true f =
          no_row refl refl
          (no_valuation c (no_room c sized (λ h. omega (arith, leb-true (length bytes) room f, tight.0 h, total))) unvalued)

module _ (t : List ℕ) (room : ℕ) where
  abbrev slicing : Call
  slicing = SliceTrace t room

  sliced : (head : Head) (kept : List Stmt) (y : Bool) → First slicing (cond y 0 10) 0
      → First slicing (cond y (Slicing.slice_of head kept) (Slicing.refusal 10 0)).reply
      (cond y (Slicing.slice_of head kept) (Slicing.refusal 10 0)).offset
  sliced head kept true f = f
  sliced head kept false f = f

  slice_first : (i : Input Stmt) → read_trace t ≡ i → FileReply (SliceTrace t room) i
      → First (SliceTrace t room) (Slicing.answered room i).reply (Slicing.answered room i).offset
  slice_first (Refused r at) q f = some_row f
  slice_first (Accepted head ts) q clear =
      let bytes = encode_trace head (slice ts) in
      sliced head (slice ts) (leb (length bytes) room)
      (fit-first slicing room (λ h. h) (λ h. h) (λ h. h) (λ h. h, λ h. h) bytes
      (ap₂ (λ head ts. encode_trace head (slice ts)) (trace-head t head ts q) (ap listed q)) clear (leb (length bytes) room) refl)

  pub slice_trace_demand1 : Demand1 (SliceTrace t room) (slice_answer t room).reply (slice_answer t room).offset
  unfolding slice_answer
  slice_trace_demand1 =
      first_demand slicing (slice_answer t room).reply (slice_answer t room).offset
      (slice_first (read_trace t) refl (trace_reply slicing refl))

module _ (t : List ℕ) (room : ℕ) where
  abbrev scripting : Call
  scripting = WriteScript t room

  scripted : (text : List ℕ) (y : Bool) → First scripting (cond y 0 10) 0
      → First scripting (cond y (Scripting.exported text) (Scripting.refusal 10 0)).reply
      (cond y (Scripting.exported text) (Scripting.refusal 10 0)).offset
  scripted text true f = f
  scripted text false f = f

  script_first : (i : Input Stmt) → read_trace t ≡ i → FileReply (WriteScript t room) i
      → First (WriteScript t room) (Scripting.answered room i).reply (Scripting.answered room i).offset
  script_first (Refused r at) q f = some_row f
  script_first (Accepted head ts) q clear =
      let text = script_text head.inputs ts in
      scripted text (leb (length text) room)
      (fit-first scripting room (λ h. h) (λ h. h) (λ h. h) (λ h. h, λ h. h) text
      (ap₂ script_text (trace_inputs t head ts q) (ap listed q)) clear (leb (length text) room) refl)

  pub write_script_demand1 : Demand1 (WriteScript t room) (script_answer t room).reply (script_answer t room).offset
  unfolding script_answer
  write_script_demand1 =
      first_demand scripting (script_answer t room).reply (script_answer t room).offset
      (script_first (read_trace t) refl (trace_reply scripting refl))
