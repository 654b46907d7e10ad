-- Demand 3 is true. The steps, and why each is:
--
-- 1. That the trace can be written says everything that is needed of the table. No refusal has reply 0, so the table was accepted, K is
--    at most 255, the trace is within 4,096 statements and 65,535 bytes, and the bytes t are those of the unwound table (`trace_written`).
-- 2. Reading gives back what was written. An accepted table is well formed, so its trace is, and so is the slice of that, which is no
--    longer; what is well formed and within the limits is read as what it is (`read_back`, `slice_back`). Hence slicing refuses nothing.
-- 3. Judging the trace is running the table (`judge-unwind-cut`), so it answers what running answers, to the last number (`judged_trace`).
--    The slice is unsafe exactly if its trace is, and at its place (`slice-alike`). That is demand 3's first sentence. Under version 129
--    the same statements are written but for the kind of the bound's tests, and a cut shows as stopped (`judge-unwind` at Assume).
-- 4. What is not read cannot matter. An input that the slice reads has its bit in the mask (`mask-bit`), and past the inputs a valuation
--    says nothing. So two valuations that agree on the mask's inputs agree on all that the slice reads, and it is unsafe under both or
--    under neither, at one place; by step 3 so are the trace and the run.
-- 5. A valuation of bytes is one of words (`ValuationLaws`), so all of this holds of the calls from C.
use Prim.Native.Nat.{ℕ, suc, ◌+◌, ◌*◌}
use native.Mathlib.Omega.{arith}
use native.Mathlib.Numerals.{add-one}
use native.Mathlib.Decide.{dec_lt}
use mathlib.Core.Path.{◌≡◌, refl, sym, ap, ap₂, ◌∙◌, subst, subst⁻¹}
use mathlib.Core.Logic.{◌↔◌}
use mathlib.Core.Bool.{Bool, true, false, cond}
use mathlib.Core.List.{List}
use lib.ListN.{length, get_or-eq_default}
use lib.Dec.{eqb, leb}
use borrow.Author.Tests.{eq-eqb, le-leb}
use Rattle.expr.specs.Lists.{All}
use Rattle.expr.specs.Number.{Byte}
use Rattle.expr.specs.Word.{test}
use Rattle.expr.specs.Eval.{env_of}
use Rattle.file.specs.Outcome.{Assume, Assert, Bound, Outcome, Ended, Failed, Lost, verdict, unsafe, place_of}
use Rattle.file.specs.OutcomeLaws.{unsafe-verdict, unsafe-is}
use Rattle.file.specs.File.{Head, header_inputs, header_count, Accepted}
use Rattle.file.proofs.EncodeLaws.{encode-length}
use Rattle.file.specs.Shown.{listed}
use Rattle.table.specs.declared.Answer as Ran
use Rattle.table.specs.Table.{Instr}
use Rattle.table.specs.TableLaws.{IsTable, table-ok, table-inputs}
use Rattle.table.specs.Run.{run}
use Rattle.table.specs.RunLaws.{run-placed}
use Rattle.table.specs.Answer as Running
use Rattle.table.specs.Answer.{run_answer}
use Rattle.trace.specs.declared.Answer as Judged
use Rattle.trace.specs.Trace.{Stmt, old_version, read_trace, stmt_bytes, trace_head, encode_trace, reads_trace}
use Rattle.trace.specs.TraceLaws.{trace_inputs}
use Rattle.trace.specs.EncodeLaws.{room-written, trace_known, old-known, old-room, old-size}
use Rattle.trace.specs.Judge.{judge}
use Rattle.trace.specs.AssertsLaws as Outcomes
use Rattle.trace.specs.Answer as Judging
use Rattle.trace.specs.Answer.{judge_answer}
use Rattle.unwind.specs.Unwind.{unwind}
use Rattle.unwind.proofs.UnwindLaws.{unwind-count, unwind-ok, unwind-read}
use Rattle.unwind.proofs.SizeLaws.{records-size}
use Rattle.unwind.specs.Gated.{shown_as}
use Rattle.unwind.proofs.AgreeLaws.{judge-unwind, judge-unwind-cut}
use Rattle.unwind.specs.Answer.{trace_answer}
use Rattle.unwind.proofs.AnswerLaws.{IsTrace, trace_written, trace_read}
use Rattle.slice.specs.Slice.{slice}
use Rattle.slice.specs.Mask.{input_mask}
use Rattle.slice.proofs.SliceLaws.{slice-alike, slice_fits, slice-read, slice-done}
use Rattle.slice.specs.MaskLaws.{mask-bit}
use Rattle.slice.specs.Answer as Slicing
use Rattle.slice.specs.Answer.{slice_answer}
use Rattle.demands.specs.Valuation.{Handed, Words, length_for, ran_with, judged_with}
use Rattle.demands.proofs.ValuationLaws.{words_in, words-length, words-input, ran-words, judged-words}
use Rattle.demands.specs.Demand3.{RunUnsafeAt, UnsafeAt, Same, as_is, cut_as_stopped, RunAlike, Alike, Within, AgreeOn, OneAnswer}
use Rattle.demands.specs.Demand3.{old_trace, Demand3}

-- ---- outcomes and their numbers

-- outcomes that are alike have numbers that are
numbers-alike : (o u : Outcome) → Outcomes.Alike o u → ((verdict o ≡ 1) ↔ (verdict u ≡ 1)) × (place_of o ≡ place_of u)
numbers-alike o u a = (
  (
    λ e. (unsafe-verdict u).1 (sym a.0 ∙ (unsafe-verdict o).0 e),
    λ e. (unsafe-verdict o).1 (a.0 ∙ (unsafe-verdict u).0 e),
  ),
  a.1,
)

-- a trace of version 129 shows a cut as stopped
shown-old : (o : Outcome) → (cut_as_stopped (verdict o) ≡ verdict (shown_as Assume o)) × (place_of o ≡ place_of (shown_as Assume o))
shown-old Ended = (refl, refl)
shown-old (Failed Assume p) = (refl, refl)
shown-old (Failed Assert p) = (refl, refl)
shown-old (Failed Bound p) = (refl, refl)
shown-old Lost = (refl, refl)

-- a run's answer as judging gives it
abbrev pub judged_as : Ran.Answer → Judged.Answer
judged_as a = record { reply = a.reply; offset = a.offset; verdict = a.verdict; place = a.place }

-- ---- what was written is read

module _ (b : List ℕ) (K : ℕ) (head : Head) (is : List Instr) (t : List ℕ) (o : All Byte b) (w : IsTrace b K head is t) where
  abbrev S : ℕ
  S = head.inputs

  -- the trace's statements, and the slice's bytes
  abbrev ts : List Stmt
  ts = unwind Bound S is K

  abbrev cut : List ℕ
  cut = encode_trace (trace_head S) (slice ts)

  table : IsTable b S is
  table = table-ok b head is o w.accepted

  inputs : header_inputs b ≡ S
  inputs = table-inputs b head is w.accepted

  pub read_back : read_trace t ≡ Accepted (trace_head S) ts
  read_back = trace_read b K head is t o w

  pub slice_back : read_trace cut ≡ Accepted (trace_head S) (slice ts)
  slice_back =
      slice-read (trace_head S) ts (trace_known S) (omega (arith, table.inputs, room-written)) w.count w.total
      (unwind-ok S is K table.ok table.inputs w.count)

  pub slice-answer : (room : ℕ) → (slice_answer t room).reply ≡ 0 → slice_answer t room ≡ Slicing.slice_of (trace_head S) (slice ts)
  unfolding slice_answer
  slice-answer room h = go (leb (length (encode_trace (trace_head S) (slice ts))) room) (ap (Slicing.answered room) read_back)
    where
      go : (x : Bool) → slice_answer t room ≡ cond x (Slicing.slice_of (trace_head S) (slice ts)) (Slicing.refusal 10 0)
          → slice_answer t room ≡ Slicing.slice_of (trace_head S) (slice ts)
      go true q = q
      go false q = absurd (let z : ◌≡◌ {A = ℕ} 0 10 = sym h ∙ ap (λ q. q.reply) q in omega arith)

  -- the trace of version 129, which has as many statements and bytes
  abbrev old_head : Head
  old_head = record { version = old_version; inputs = S }

  abbrev olds : List Stmt
  olds = unwind Assume S is K

  old-back : read_trace (encode_trace old_head olds) ≡ Accepted old_head olds
  old-back =
      let old = encode-length stmt_bytes old_head olds in
      let new = encode-length stmt_bytes (trace_head S) ts in
      unwind-read Assume old_head tt old-known old-room is K table.ok table.inputs
      (omega (arith, w.count, unwind-count Assume S is K, unwind-count Bound S is K))
      (omega (arith, w.total, old, new, old-size, records-size Assume S is K, records-size Bound S is K))

  old-bytes : old_trace b K ≡ encode_trace old_head olds
  old-bytes =
      ap₂ (λ S is. encode_trace (record { version = old_version; inputs = S }) (unwind Assume S is K)) inputs (ap listed w.accepted)

  -- ---- running and judging, by the valuation's length

  run-tested : (v : List ℕ) → run_answer b K v ≡ cond (eqb (length v) S) (Running.answer_of (run is K v)) (Running.refusal 11 0)
  unfolding run_answer
  run-tested v =
      ap (Running.answered K v) w.accepted
      ∙ ap (λ x. cond x (cond (eqb (length v) S) (Running.answer_of (run is K v)) (Running.refusal 11 0)) (Running.refusal 8 0))
      (le-leb K 255 w.bound)

  pub run-done : (v : List ℕ) → length v ≡ S → run_answer b K v ≡ Running.answer_of (run is K v)
  run-done v h = run-tested v ∙ ap (λ x. cond x (Running.answer_of (run is K v)) (Running.refusal 11 0)) (eq-eqb (length v) S h)

  -- of any trace that is read with the table's inputs
  module _ (s : List ℕ) {header : Head} {us : List Stmt} (a : read_trace s ≡ Accepted header us) (i : header.inputs ≡ S) where
    judge-tested : (v : List ℕ) → judge_answer s v ≡ cond (eqb (length v) S) (Judging.answer_of (judge us (env_of v)))
        (Judging.refusal 11 0)
    unfolding judge_answer
    judge-tested v =
        ap (Judging.answered v) a
        ∙ ap (λ n. cond (eqb (length v) n) (Judging.answer_of (judge us (env_of v))) (Judging.refusal 11 0)) i

    judge-done : (v : List ℕ) → length v ≡ S → judge_answer s v ≡ Judging.answer_of (judge us (env_of v))
    judge-done v h =
        judge-tested v ∙ ap (λ x. cond x (Judging.answer_of (judge us (env_of v))) (Judging.refusal 11 0)) (eq-eqb (length v) S h)

    -- that shows the run's outcome
    same_as_run : (shown : ℕ → ℕ) → shown 0 ≡ 0 → (v : List ℕ)
        → (shown (verdict (run is K v).outcome) ≡ verdict (judge us (env_of v)))
        × (place_of (run is K v).outcome ≡ place_of (judge us (env_of v))) → Same shown (run_answer b K v) (judge_answer s v)
    same_as_run shown z v h =
        subst⁻¹ (λ r. Same shown r (judge_answer s v)) (run-tested v)
        (subst⁻¹ (λ j. Same shown (cond (eqb (length v) S) (Running.answer_of (run is K v)) (Running.refusal 11 0)) j) (judge-tested v)
        (go (eqb (length v) S)))
      where
        go : (x : Bool) → Same shown (cond x (Running.answer_of (run is K v)) (Running.refusal 11 0))
            (cond x (Judging.answer_of (judge us (env_of v))) (Judging.refusal 11 0))
        go true = (refl, h.0, h.1)
        go false = (refl, z, refl)

    -- that is unsafe where the run is
    unsafe_as_run : (v : List ℕ) → Outcomes.Alike (run is K v).outcome (judge us (env_of v)) → (p : ℕ)
        → RunUnsafeAt p (run_answer b K v) ↔ UnsafeAt p (judge_answer s v)
    unsafe_as_run v h p =
        subst⁻¹ (λ r. RunUnsafeAt p r ↔ UnsafeAt p (judge_answer s v)) (run-tested v)
        (subst⁻¹ (λ j. RunUnsafeAt p (cond (eqb (length v) S) (Running.answer_of (run is K v)) (Running.refusal 11 0)) ↔ UnsafeAt p j)
        (judge-tested v) (go (eqb (length v) S)))
      where
        n : ((verdict (run is K v).outcome ≡ 1) ↔ (verdict (judge us (env_of v)) ≡ 1))
            × (place_of (run is K v).outcome ≡ place_of (judge us (env_of v)))
        n = numbers-alike (run is K v).outcome (judge us (env_of v)) h

        go : (x : Bool) → RunUnsafeAt p (cond x (Running.answer_of (run is K v)) (Running.refusal 11 0))
            ↔ UnsafeAt p (cond x (Judging.answer_of (judge us (env_of v))) (Judging.refusal 11 0))
        go true = (λ u. (refl, n.0.0 u.1, sym n.1 ∙ u.2), λ u. (refl, n.0.1 u.1, n.1 ∙ u.2))
        go false = (λ u. absurd (omega (arith, u.0)), λ u. absurd (omega (arith, u.0)))

  -- ---- judging is running

  traced : (v : List ℕ) → judge ts (env_of v) ≡ (run is K v).outcome
  traced v = judge-unwind-cut S is K v table.ok

  pub run-alike : (v : List ℕ) → Outcomes.Alike (run is K v).outcome (judge ts (env_of v))
  run-alike v = (ap unsafe (sym (traced v)), ap place_of (sym (traced v)))

  pub slice_as_run : (v : List ℕ) → Outcomes.Alike (run is K v).outcome (judge (slice ts) (env_of v))
  slice_as_run v =
      let ran = run-alike v in
      let kept = slice-alike ts (env_of v) (env_of v) (λ x r. refl) in
      (ran.0 ∙ kept.0, ran.1 ∙ kept.1)

  -- to the last number
  judged_trace : (v : List ℕ) → judge_answer t v ≡ judged_as (run_answer b K v)
  judged_trace v = judge-tested t read_back refl v ∙ go (eqb (length v) S) ∙ sym (ap judged_as (run-tested v))
    where
      go : (x : Bool) → cond x (Judging.answer_of (judge ts (env_of v))) (Judging.refusal 11 0)
          ≡ judged_as (cond x (Running.answer_of (run is K v)) (Running.refusal 11 0))
      go true = ap Judging.answer_of (traced v)
      go false = refl

  judged-old : (v : List ℕ) → Same cut_as_stopped (run_answer b K v) (judge_answer (encode_trace old_head olds) v)
  judged-old v =
      let shown = judge-unwind Assume S is K v table.ok in
      let old = shown-old (run is K v).outcome in
      same_as_run (encode_trace old_head olds) old-back refl cut_as_stopped refl v (
        old.0 ∙ sym (ap verdict shown),
        old.1
            ∙ sym (ap place_of shown),
      )

  -- ---- within the bound

  placed : (v : List ℕ) (p : ℕ) → RunUnsafeAt p (run_answer b K v) → Within (header_count b) K (run_answer b K v)
  placed v p u = go (eqb (length v) S) (run-tested v)
    where
      ran : Within (header_count b) K (Running.answer_of (run is K v))
          → run_answer b K v ≡ Running.answer_of (run is K v) → Within (header_count b) K (run_answer b K v)
      ran x e = subst⁻¹ (Within (header_count b) K) e x

      go : (x : Bool) → run_answer b K v ≡ cond x (Running.answer_of (run is K v)) (Running.refusal 11 0)
          → Within (header_count b) K (run_answer b K v)
      go false e = absurd (let z : ◌≡◌ {A = ℕ} 0 11 = sym u.0 ∙ ap (λ r. r.reply) e in omega arith)
      go true e =
          let q = run-placed S is K table.ok v in
          let o = (run is K v).outcome in
          let one : verdict (run is K v).outcome ≡ 1 = sym (ap (λ r. r.verdict) e) ∙ u.1 in
          let at = q.place Assert (place_of o) (unsafe-is o ((unsafe-verdict o).0 one)) in
          ran (record {
            few = q.few;
            instruction = at.0;
            inside = omega (arith, at.1, table.count);
            place = at.2 ∙ ap (λ n. (run is K v).back_jumps * n + at.0) (ap suc table.count ∙ sym (add-one (header_count b)));
          }) e

  -- ---- what is not read cannot matter

  -- the inputs that the slice reads are the mask's; past the inputs both valuations are 0
  read_same : (v u : List ℕ) → AgreeOn Words S (input_mask S (slice ts)) v u → (x : ℕ) → reads_trace x (slice ts) ≡ true
      → env_of v x ≡ env_of u x
  read_same v u a x r =
      elim (dec_lt x S) [
        | yes l ↦ a.read-inputs x l (mask-bit S (λ s. reads_trace s (slice ts)) x l ∙ ap test r)
        | no l ↦ get_or-eq_default v 0 {n = x} (omega (arith, a.first-length))
            ∙ sym (get_or-eq_default u 0 {n = x} (omega (arith, a.second-length)))
      ]

  module _ (v u : List ℕ) (a : AgreeOn Words S (input_mask S (slice ts)) v u) where
    -- the trace under one valuation, its slice under the other
    apart : Outcomes.Alike (judge ts (env_of v)) (judge (slice ts) (env_of u))
    apart = slice-alike ts (env_of v) (env_of u) (read_same v u a)

    runs-alike : Outcomes.Alike (run is K v).outcome (run is K u).outcome
    runs-alike =
        let first = run-alike v in
        let second = slice_as_run u in
        (first.0 ∙ apart.0 ∙ sym second.0, first.1 ∙ apart.1 ∙ sym second.1)

    run_decided : RunAlike (run_answer b K v) (run_answer b K u)
    run_decided =
        subst⁻¹ (λ r. RunAlike r (run_answer b K u)) (run-done v a.first-length)
        (subst⁻¹ (RunAlike (Running.answer_of (run is K v))) (run-done u a.second-length)
        (numbers-alike (run is K v).outcome (run is K u).outcome runs-alike))

    judge_decided : (s : List ℕ) {us : List Stmt} → read_trace s ≡ Accepted (trace_head S) us
        → Outcomes.Alike (judge us (env_of v)) (judge us (env_of u)) → Alike (judge_answer s v) (judge_answer s u)
    judge_decided s {us} r h =
        subst⁻¹ (λ j. Alike j (judge_answer s u)) (judge-done s r refl v a.first-length)
        (subst⁻¹ (Alike (Judging.answer_of (judge us (env_of v)))) (judge-done s r refl u a.second-length)
        (numbers-alike (judge us (env_of v)) (judge us (env_of u)) h))

    all_decided : RunAlike (run_answer b K v) (run_answer b K u) × Alike (judge_answer t v) (judge_answer t u)
        × Alike (judge_answer cut v) (judge_answer cut u)
    all_decided =
        let first = slice-alike ts (env_of v) (env_of v) (λ x r. refl) in
        let second = slice-alike ts (env_of u) (env_of u) (λ x r. refl) in (
          run_decided,
          judge_decided t read_back (apart.0 ∙ sym second.0, apart.1 ∙ sym second.1),
          judge_decided cut slice_back (sym first.0 ∙ apart.0, sym first.1 ∙ apart.1),
        )

  -- ---- and so for valuations however they are handed

  module _ (h : Handed) where
    ws : List ℕ → List ℕ
    ws v = words_in h S v

    ran : (v : List ℕ) → ran_with h b K v ≡ run_answer b K (words_in h S v)
    ran v = ran-words h b K v ∙ ap (λ n. run_answer b K (words_in h n v)) inputs

    -- judging a trace that is read with the table's inputs
    judged-as : (s : List ℕ) {header : Head} {us : List Stmt} → read_trace s ≡ Accepted header us → header.inputs ≡ S → (v : List ℕ)
        → judged_with h s v ≡ judge_answer s (words_in h S v)
    judged-as s {header} {us} a i v =
        judged-words h s v ∙ ap (λ n. judge_answer s (words_in h n v)) (trace_inputs s header us a ∙ i)

    whole : (v : List ℕ) → judged_with h t v ≡ judge_answer t (words_in h S v)
    whole v = judged-as t read_back refl v

    judged-whole : (v : List ℕ) → judged_with h t v ≡ judged_as (ran_with h b K v)
    judged-whole v = whole v ∙ judged_trace (words_in h S v) ∙ sym (ap judged_as (ran v))

    sliced : (v : List ℕ) → judged_with h cut v ≡ judge_answer cut (words_in h S v)
    sliced v = judged-as cut slice_back refl v

    -- what holds of a run and a judged trace with the words
    both : (P : Ran.Answer → Judged.Answer → Type 0) (s : List ℕ) (v : List ℕ) → judged_with h s v ≡ judge_answer s (words_in h S v)
        → P (run_answer b K (words_in h S v)) (judge_answer s (words_in h S v)) → P (ran_with h b K v) (judged_with h s v)
    both P s v e x =
        subst⁻¹ (λ a. P a (judged_with h s v)) (ran v) (subst⁻¹ (P (run_answer b K (words_in h S v))) e x)

    -- what agrees as it is handed agrees in words
    agree_words : (mask : ℕ) (v u : List ℕ) → AgreeOn h (header_inputs b) mask v u → AgreeOn Words S mask (words_in h S v) (words_in h S u)
    agree_words mask v u a = record {
      first-length = (words-length h S v).1 (right v a.first-length);
      second-length = (words-length h S u).1 (right u a.second-length);
      read-inputs = λ s l m.
          words-input h S v (right v a.first-length) s l
          ∙ a.read-inputs s (omega (arith, inputs)) m
          ∙ sym (words-input h S u (right u a.second-length) s l);
    }
      where
        right : (x : List ℕ) → length x ≡ length_for h (header_inputs b) → length x ≡ length_for h S
        right x e = e ∙ ap (length_for h) inputs

    one_answer : OneAnswer h b K t (Slicing.slice_of (trace_head S) (slice ts))
    one_answer = record {
      none_refused = λ v e.
          let l : length (words_in h S v) ≡ S = (words-length h S v).1 (e ∙ ap (length_for h) inputs) in (
            ap (λ a. a.reply) (ran v ∙ run-done (words_in h S v) l),
            ap (λ a. a.reply) (whole v ∙ judge-done t read_back refl (words_in h S v) l),
            ap (λ a. a.reply) (sliced v ∙ judge-done cut slice_back refl (words_in h S v) l),
          );
      one-verdict = λ v. subst⁻¹ (Same as_is (ran_with h b K v)) (judged-whole v) (refl, refl, refl);
      run_trace = λ v p.
          both (λ a j. RunUnsafeAt p a ↔ UnsafeAt p j) t v (whole v)
          (unsafe_as_run t read_back refl (words_in h S v) (run-alike (words_in h S v)) p);
      run-slice = λ v p.
          both (λ a j. RunUnsafeAt p a ↔ UnsafeAt p j) cut v (sliced v)
          (unsafe_as_run cut slice_back refl (words_in h S v) (slice_as_run (words_in h S v)) p);
      within = λ v p u. subst⁻¹ (Within (header_count b) K) (ran v) (placed (words_in h S v) p (subst (RunUnsafeAt p) (ran v) u));
      read-decides = λ v u a.
          let d = all_decided (words_in h S v) (words_in h S u) (agree_words (input_mask S (slice ts)) v u a) in (
            subst⁻¹ (λ x. RunAlike x (ran_with h b K u)) (ran v) (subst⁻¹ (RunAlike (run_answer b K (words_in h S v))) (ran u) d.0),
            subst⁻¹ (λ x. Alike x (judged_with h t u)) (whole v) (subst⁻¹ (Alike (judge_answer t (words_in h S v))) (whole u) d.1),
            subst⁻¹ (λ x. Alike x (judged_with h cut u)) (sliced v) (subst⁻¹ (Alike (judge_answer cut (words_in h S v))) (sliced u) d.2),
          );
    }

    old-answer : (v : List ℕ) → Same cut_as_stopped (ran_with h b K v) (judged_with h (old_trace b K) v)
    old-answer v =
        subst⁻¹ (λ s. Same cut_as_stopped (ran_with h b K v) (judged_with h s v)) old-bytes
        (both (Same cut_as_stopped) (encode_trace old_head olds) v (judged-as (encode_trace old_head olds) old-back refl v)
        (judged-old (words_in h S v)))

  written_demand : Demand3 b K t
  written_demand = record {
    sliced = λ room h. ap (λ q. q.reply) (slice-done t (trace_head S) ts room read_back
        (omega (arith, slice_fits (trace_head S) ts, ap length w.bytes)));
    alike = λ h room e. subst (OneAnswer h b K t) (sym (slice-answer room e)) (one_answer h);
    old = old-answer;
  }

-- judging the trace answers what running the table does
pub judged-run : (b : List ℕ) (K room : ℕ) → All Byte b → (trace_answer b K room).reply ≡ 0 → (h : Handed) (v : List ℕ)
    → judged_with h (trace_answer b K room).bytes v ≡ judged_as (ran_with h b K v)
judged-run b K room o done =
    let found = trace_written b K room done in
    judged-whole b K found.0 found.1 (trace_answer b K room).bytes o found.2

pub demand3 : (b : List ℕ) (K room : ℕ) → All Byte b → (trace_answer b K room).reply ≡ 0 → Demand3 b K (trace_answer b K room).bytes
demand3 b K room o h =
    let found = trace_written b K room h in
    written_demand b K found.0 found.1 (trace_answer b K room).bytes o found.2
