-- A solver's answer says whether the rule can fail: the script of a trace has a solution exactly if some valuation makes the trace unsafe
-- (`sat_iff`), and a written trace and its slice are unsafe exactly where the run is (`run-alike`, `slice_as_run`).
use Prim.Native.Nat.{ℕ, ◌≤◌}
use mathlib.Core.Path.{◌≡◌, sym, ap, ap₂, ◌∙◌, subst}
use mathlib.Core.Bool.{true}
use mathlib.Core.Logic.{◌↔◌}
use mathlib.Core.List.{List}
use lib.ListN.{length}
use Rattle.expr.specs.Lists.{All}
use Rattle.expr.specs.Number.{Byte}
use Rattle.expr.specs.Word.{Word}
use Rattle.expr.specs.Eval.{Env, env_of}
use Rattle.file.specs.Outcome.{Bound, unsafe}
use Rattle.file.specs.OutcomeLaws.{unsafe-verdict}
use Rattle.file.specs.File.{Head, header_inputs, Accepted}
use Rattle.file.specs.Shown.{listed}
use Rattle.table.specs.Table.{Instr}
use Rattle.table.specs.TableLaws.{table-ok, table-inputs}
use Rattle.table.specs.Run.{run}
use Rattle.trace.specs.Trace.{Stmt, at_first, read_trace, trace_head, encode_trace}
use Rattle.trace.specs.TraceLaws.{trace_inputs}
use Rattle.trace.specs.WellFormed.{StmtsOk}
use Rattle.trace.specs.Judge.{judge}
use Rattle.trace.specs.Answer.{judge_answer}
use Rattle.trace.specs.Past.{values_past, OfWords}
use Rattle.unwind.specs.Unwind.{unwind}
use Rattle.unwind.proofs.UnwindLaws.{unwind-ok}
use Rattle.unwind.specs.Answer.{trace_answer}
use Rattle.unwind.proofs.AnswerLaws.{IsTrace, trace_written}
use Rattle.slice.specs.Slice.{slice}
use Rattle.slice.proofs.SliceLaws.{slice-ok}
use Rattle.script.specs.Smt.{satisfies}
use Rattle.script.specs.Script.{script_of, inputs_of}
use Rattle.script.proofs.ScriptLaws.{inputs-length, inputs-words, model_violates, sat_iff}
use Rattle.script.specs.Scope.{WellScoped}
use Rattle.script.specs.ScriptText.{text_of}
use Rattle.script.specs.Answer.{script_answer}
use Rattle.script.proofs.BytesLaws.{script_accepted, script_done, script_bytes, script_well_scoped, script_judges, model_judged-unsafe}
use Rattle.script.proofs.BytesLaws.{script_sat}
use Rattle.demands.specs.Solver.{asked_by, AsksFor, Violated, Posed, Fails, Asks, Solver}
use Rattle.demands.proofs.Demand3Proof.{read_back, slice_back, slice-answer, run-done, run-alike, slice_as_run}

-- ---- of any trace

module _ (s : List ℕ) (head : Head) (ts : List Stmt) (is : read_trace s ≡ Accepted head ts) where
  inputs-same : header_inputs s ≡ head.inputs
  inputs-same = trace_inputs s head ts is

  is_script : asked_by s ≡ script_of head.inputs ts
  is_script = ap₂ script_of inputs-same (ap listed is)

  -- what the script of the trace asks for, `asked_by` asks for
  asks_for : (F : List ℕ → Type 0)
      → ((τ : Env) → OfWords τ → satisfies τ (script_of head.inputs ts) ≡ true → F (inputs_of head.inputs τ))
      → ((v : List ℕ) → F v → (τ : Env) × OfWords τ × (satisfies τ (script_of head.inputs ts) ≡ true))
      → AsksFor s F
  asks_for F found solved = record {
    satisfiable = (
      λ m. (inputs_of head.inputs m.0, found m.0 m.1 (here m.0 m.2)),
      λ m. let k = solved m.0 m.1 in (k.0, k.1, subst (λ c. satisfies k.0 c ≡ true) (sym is_script) k.2),
    );
    solution = λ τ ws q. subst (λ n. F (inputs_of n τ)) (sym inputs-same) (found τ ws (here τ q));
  }
    where
      here : (τ : Env) → satisfies τ (asked_by s) ≡ true → satisfies τ (script_of head.inputs ts) ≡ true
      here τ q = subst (λ c. satisfies τ c ≡ true) is_script q

  posed-accepted : All Byte s → Posed s
  posed-accepted o = record {
    text = λ room done. script_bytes s head ts is room done ∙ ap text_of (sym is_script);
    scoped = subst WellScoped (sym is_script) (script_well_scoped s head ts is o);
    at_its_values = λ v l w.
        subst (λ us. (satisfies (values_past us (env_of v)) (asked_by s) ≡ true) ↔ ((judge_answer s v).verdict ≡ 1)) (sym (ap listed is))
        (subst (λ c. (satisfies (values_past ts (env_of v)) c ≡ true) ↔ ((judge_answer s v).verdict ≡ 1)) (sym is_script)
        (script_judges s head ts is o v (l ∙ inputs-same) w));
    asks = asks_for (Violated s)
        (λ τ ws q.
        let m = model_judged-unsafe s head ts is o τ ws q in
        record { inputs = m.0 ∙ sym inputs-same; words = m.1; unsafe = m.2 })
        (λ v f. (script_sat s head ts is o).1 (v, f.inputs ∙ inputs-same, f.words, f.unsafe));
  }

pub posed : (s : List ℕ) (room : ℕ) → All Byte s → (script_answer s room).reply ≡ 0 → Posed s
posed s room o done = let found = script_accepted s room done in posed-accepted s found.0 found.1 found.2 o

-- ---- of a written trace, and of its slice

module _ (b : List ℕ) (K : ℕ) (head : Head) (is : List Instr) (t : List ℕ) (o : All Byte b) (w : IsTrace b K head is t) where
  abbrev S : ℕ
  S = head.inputs

  abbrev ts : List Stmt
  ts = unwind Bound S is K

  inputs : header_inputs b ≡ S
  inputs = table-inputs b head is w.accepted

  -- a run is unsafe exactly if its outcome is
  fails : (v : List ℕ) → length v ≡ S → All Word v → unsafe (run is K v).outcome ≡ true → Fails b K v
  fails v l a u = record {
    inputs = l ∙ sym inputs;
    words = a;
    unsafe = ap (λ r. r.verdict) (run-done b K head is t o w v l) ∙ (unsafe-verdict (run is K v).outcome).1 u;
  }

  failed : (v : List ℕ) → Fails b K v → unsafe (run is K v).outcome ≡ true
  failed v f =
      (unsafe-verdict (run is K v).outcome).0
      (sym (ap (λ r. r.verdict) (run-done b K head is t o w v (f.inputs ∙ inputs))) ∙ f.unsafe)

  -- of any trace that is read with the table's inputs and is unsafe where the run is
  asks : (s : List ℕ) (us : List Stmt) → read_trace s ≡ Accepted (trace_head S) us → StmtsOk S (at_first (trace_head S)) us
      → ((v : List ℕ) → unsafe (run is K v).outcome ≡ unsafe (judge us (env_of v))) → Asks b K s
  asks s us a k e = record {
    written = λ room h. script_done s (trace_head S) us a room (subst (λ c. length (text_of c) ≤ room) (is_script s (trace_head S) us a) h);
    asks = asks_for s (trace_head S) us a (Fails b K)
        (λ τ ws q.
        fails (inputs_of S τ) (inputs-length τ 0 S) (inputs-words τ 0 S ws)
        (e (inputs_of S τ) ∙ model_violates (trace_head S) us k τ ws q))
        (λ v f. (sat_iff (trace_head S) us k).1 (v, f.inputs ∙ inputs, f.words, sym (e v) ∙ failed v f));
  }

  written-ok : StmtsOk S (at_first (trace_head S)) ts
  written-ok =
      let table = table-ok b head is o w.accepted in
      unwind-ok S is K table.ok table.inputs w.count

  written-solver : Solver b K t
  written-solver = record {
    whole = asks t ts (read_back b K head is t o w) written-ok (λ v. (run-alike b K head is t o w v).0);
    sliced = λ room h.
        subst (λ q. Asks b K q.bytes) (sym (slice-answer b K head is t o w room h))
        (asks (encode_trace (trace_head S) (slice ts)) (slice ts) (slice_back b K head is t o w) (slice-ok (trace_head S) ts written-ok)
        (λ v. (slice_as_run b K head is t o w v).0));
  }

pub solver : (b : List ℕ) (K room : ℕ) → All Byte b → (trace_answer b K room).reply ≡ 0 → Solver b K (trace_answer b K room).bytes
solver b K room o h =
    let found = trace_written b K room h in
    written-solver b K found.0 found.1 (trace_answer b K room).bytes o found.2
