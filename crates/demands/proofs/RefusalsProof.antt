-- A refusal's other numbers are 0 and its buffer is as it was: each answer goes by its tests, and a refusal is made of zeros.
use Prim.Native.Nat.{ℕ}
use mathlib.Core.Path.{◌≡◌, refl, ap, ◌∙◌, subst⁻¹}
use mathlib.Core.Bool.{Bool, true, false, cond, ◌&&◌}
use mathlib.Core.List.{List, []}
use lib.ListN.{length}
use lib.Dec.{eqb, leb}
use Rattle.expr.specs.Eval.{env_of}
use Rattle.file.specs.Outcome.{Bound}
use Rattle.file.specs.OutcomeLaws.{no_place}
use Rattle.file.specs.File.{Head, header_inputs, Input, Accepted, Refused}
use Rattle.table.specs.declared.Answer as Ran
use Rattle.table.specs.Table.{Instr, read_table}
use Rattle.table.specs.Run.{run}
use Rattle.table.specs.Answer.{run_answer}
use Rattle.table.specs.Answer as Running
use Rattle.trace.specs.declared.Answer as Judged
use Rattle.trace.specs.Trace.{Stmt, read_trace, trace_head, encode_trace}
use Rattle.trace.specs.Judge.{judge}
use Rattle.trace.specs.Answer.{judge_answer}
use Rattle.trace.specs.Answer as Judging
use Rattle.write.specs.Splice.{over}
use Rattle.write.specs.declared.Written.{Written}
use Rattle.unwind.specs.Unwind.{unwind}
use Rattle.unwind.specs.Answer.{Traced, trace_answer, TraceWritten}
use Rattle.unwind.specs.Answer as Unwinding
use Rattle.slice.specs.declared.Answer as Kept
use Rattle.slice.specs.Slice.{slice}
use Rattle.slice.specs.Answer.{Sliced, slice_answer, SliceWritten}
use Rattle.slice.specs.Answer as Slicing
use Rattle.script.specs.ScriptText.{script_text}
use Rattle.script.specs.Answer.{script_answer, ScriptWritten}
use Rattle.script.specs.Answer as Scripting
use Rattle.kadvitul.specs.Interface.{TraceNumber, TraceGives, SliceNumber, SliceGives, ScriptNumber, ScriptGives}
use Rattle.demands.specs.Valuation.{Handed, ran_with, judged_with}
use Rattle.demands.specs.Refusals.{RunRest, JudgeRest, TraceRest, SliceRest, ScriptRest, TraceGivesRest, SliceGivesRest}
use Rattle.demands.specs.Refusals.{ScriptGivesRest}
use Rattle.demands.proofs.ValuationLaws.{words_in, ran-words, judged-words}

-- ---- running

run-refusal : (r o : ℕ) → RunRest (Running.refusal r o)
run-refusal r o = record { refused = λ h. (refl, refl, refl); placeless = λ h. refl }

run-words-rest : (table : List ℕ) (K : ℕ) (words : List ℕ) → RunRest (run_answer table K words)
unfolding run_answer
run-words-rest table K words = go (read_table table)
  where
    chosen : (b c : Bool) (a : Ran.Answer) → RunRest a → RunRest (cond b (cond c a (Running.refusal 11 0)) (Running.refusal 8 0))
    chosen true true a h = h
    chosen true false a h = run-refusal 11 0
    chosen false c a h = run-refusal 8 0

    go : (x : Input Instr) → RunRest (Running.answered K words x)
    go (Refused r o) = run-refusal r o
    go (Accepted head is) =
        chosen (leb K 255) (eqb (length words) head.inputs) (Running.answer_of (run is K words))
        (record { refused = λ h. absurd (h refl); placeless = no_place (run is K words).outcome })

pub run-rest : (h : Handed) (table : List ℕ) (K : ℕ) (valuation : List ℕ) → RunRest (ran_with h table K valuation)
run-rest h table K v = subst⁻¹ RunRest (ran-words h table K v) (run-words-rest table K (words_in h (header_inputs table) v))

-- ---- judging

judge-refusal : (r o : ℕ) → JudgeRest (Judging.refusal r o)
judge-refusal r o = record { refused = λ h. (refl, refl); placeless = λ h. refl }

judge-words-rest : (trace words : List ℕ) → JudgeRest (judge_answer trace words)
unfolding judge_answer
judge-words-rest trace words = go (read_trace trace)
  where
    chosen : (c : Bool) (a : Judged.Answer) → JudgeRest a → JudgeRest (cond c a (Judging.refusal 11 0))
    chosen true a h = h
    chosen false a h = judge-refusal 11 0

    go : (x : Input Stmt) → JudgeRest (Judging.answered words x)
    go (Refused r o) = judge-refusal r o
    go (Accepted head ts) =
        chosen (eqb (length words) head.inputs) (Judging.answer_of (judge ts (env_of words)))
        (record { refused = λ h. absurd (h refl); placeless = no_place (judge ts (env_of words)) })

pub judge-rest : (h : Handed) (trace valuation : List ℕ) → JudgeRest (judged_with h trace valuation)
judge-rest h trace v = subst⁻¹ JudgeRest (judged-words h trace v) (judge-words-rest trace (words_in h (header_inputs trace) v))

-- ---- writing a trace

trace_empty : (table : List ℕ) (K room : ℕ) → ((trace_answer table K room).reply ≡ 0 → ⊥) → (trace_answer table K room).bytes ≡ []
unfolding trace_answer
trace_empty table K room = go (read_table table)
  where
    fitted : (b c : Bool) (bytes : List ℕ)
        → ((cond b (cond c (record { reply = 0; offset = 0; bytes = bytes }) (Unwinding.refusal 10 0)) (Unwinding.refusal 9 0)).reply ≡ 0
        → ⊥)
        → (cond b (cond c (record { reply = 0; offset = 0; bytes = bytes }) (Unwinding.refusal 10 0)) (Unwinding.refusal 9 0)).bytes ≡ []
    fitted true true bytes h = absurd (h refl)
    fitted true false bytes h = refl
    fitted false c bytes h = refl

    bounded : (b : Bool) (q : Traced) → ((q.reply ≡ 0 → ⊥) → q.bytes ≡ []) → ((cond b q (Unwinding.refusal 8 0)).reply ≡ 0 → ⊥)
        → (cond b q (Unwinding.refusal 8 0)).bytes ≡ []
    bounded true q f h = f h
    bounded false q f h = refl

    go : (x : Input Instr) → ((Unwinding.answered K room x).reply ≡ 0 → ⊥) → (Unwinding.answered K room x).bytes ≡ []
    go (Refused r o) h = refl
    go (Accepted head is) h =
        let ts = unwind Bound head.inputs is K in
        let bytes = encode_trace (trace_head head.inputs) ts in
        bounded (leb K 255) (Unwinding.trace_of room head.inputs ts)
        (fitted (leb (length ts) 4096 && leb (length bytes) 65535) (leb (length bytes) room) bytes) h

pub write_trace_rest : (table : List ℕ) (K : ℕ) (out out' : List ℕ) (r : Written) → TraceWritten table K out out' r
    → TraceRest out out' r
write_trace_rest table K out out' r w h = (ap (λ a. a.length) w.answer ∙ ap length empty, w.buffer ∙ ap (λ bs. over bs out) empty)
  where
    empty : (trace_answer table K (length out)).bytes ≡ []
    empty = trace_empty table K (length out) (λ e. h (ap (λ a. a.reply) w.answer ∙ e))

-- the calls from C
pub trace_gives_rest : (which : TraceNumber) (table : List ℕ) (K : ℕ) (out out' : List ℕ) (r : ℕ) → TraceGives which table K out out' r
    → TraceGivesRest (trace_answer table K (length out)) out out'
trace_gives_rest which table K out out' r w h =
    let empty = trace_empty table K (length out) h in
    (w.buffer ∙ ap (λ bs. over bs out) empty, ap length empty)

-- ---- slicing

abbrev Nothing : Sliced → Type 0
Nothing q = (q.bytes ≡ []) × (q.mask ≡ 0) × (q.inputs ≡ 0)

slice_empty : (trace : List ℕ) (room : ℕ) → ((slice_answer trace room).reply ≡ 0 → ⊥) → Nothing (slice_answer trace room)
unfolding slice_answer
slice_empty trace room = go (read_trace trace)
  where
    roomy : (b : Bool) (head : Head) (kept : List Stmt) → ((cond b (Slicing.slice_of head kept) (Slicing.refusal 10 0)).reply ≡ 0 → ⊥)
        → Nothing (cond b (Slicing.slice_of head kept) (Slicing.refusal 10 0))
    roomy true head kept h = absurd (h refl)
    roomy false head kept h = (refl, refl, refl)

    go : (x : Input Stmt) → ((Slicing.answered room x).reply ≡ 0 → ⊥) → Nothing (Slicing.answered room x)
    go (Refused r o) h = (refl, refl, refl)
    go (Accepted head ts) h = roomy (leb (length (encode_trace head (slice ts))) room) head (slice ts) h

pub slice_trace_rest : (trace out out' : List ℕ) (r : Kept.Answer) → SliceWritten trace out out' r → SliceRest out out' r
slice_trace_rest trace out out' r w h = (
  ap (λ a. a.length) w.answer ∙ ap length empty.0,
  ap (λ a. a.mask) w.answer ∙ empty.1,
  ap (λ a. a.inputs) w.answer ∙ empty.2,
  w.buffer ∙ ap (λ bs. over bs out) empty.0,
)
  where
    empty : Nothing (slice_answer trace (length out))
    empty = slice_empty trace (length out) (λ e. h (ap (λ a. a.reply) w.answer ∙ e))

pub slice_gives_rest : (which : SliceNumber) (trace out out' : List ℕ) (r : ℕ) → SliceGives which trace out out' r
    → SliceGivesRest (slice_answer trace (length out)) out out'
slice_gives_rest which trace out out' r w h =
    let empty = slice_empty trace (length out) h in
    (w.buffer ∙ ap (λ bs. over bs out) empty.0, ap length empty.0, empty.1, empty.2)

-- ---- writing a script

script_empty : (trace : List ℕ) (room : ℕ) → ((script_answer trace room).reply ≡ 0 → ⊥) → (script_answer trace room).bytes ≡ []
unfolding script_answer
script_empty trace room = go (read_trace trace)
  where
    roomy : (b : Bool) (text : List ℕ) → ((cond b (Scripting.exported text) (Scripting.refusal 10 0)).reply ≡ 0 → ⊥)
        → (cond b (Scripting.exported text) (Scripting.refusal 10 0)).bytes ≡ []
    roomy true text h = absurd (h refl)
    roomy false text h = refl

    go : (x : Input Stmt) → ((Scripting.answered room x).reply ≡ 0 → ⊥) → (Scripting.answered room x).bytes ≡ []
    go (Refused r o) h = refl
    go (Accepted head ts) h = let text = script_text head.inputs ts in roomy (leb (length text) room) text h

pub write_script_rest : (trace out out' : List ℕ) (r : Written) → ScriptWritten trace out out' r → ScriptRest out out' r
write_script_rest trace out out' r w h = (ap (λ a. a.length) w.answer ∙ ap length empty, w.buffer ∙ ap (λ bs. over bs out) empty)
  where
    empty : (script_answer trace (length out)).bytes ≡ []
    empty = script_empty trace (length out) (λ e. h (ap (λ a. a.reply) w.answer ∙ e))

pub script_gives_rest : (which : ScriptNumber) (trace out out' : List ℕ) (r : ℕ) → ScriptGives which trace out out' r
    → ScriptGivesRest (script_answer trace (length out)) out out'
script_gives_rest which trace out out' r w h =
    let empty = script_empty trace (length out) h in
    (w.buffer ∙ ap (λ bs. over bs out) empty, ap length empty)
