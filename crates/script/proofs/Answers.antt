-- The answer to writing a script, by the way that the code takes to it: the trace refuses, the buffer is too short, the script is written.
use Rattle.std.proofs.Common.{ℕ, ◌≤◌, ◌<◌, arith, ◌≡◌, sym, ap, ◌∙◌, Bool, true, false, cond, List, length, le-leb}
use lib.Dec.{leb}
use borrow.Author.Tests.{lt-leb}
use Rattle.file.specs.File.{Head, Accepted, Refused}
use Rattle.trace.specs.Trace.{Stmt, read_trace}
use Rattle.write.specs.Splice.{Wrote, over}
use Rattle.write.specs.SpliceLaws.{splice-over}
use Rattle.write.specs.declared.Written.{Written}
use Rattle.script.specs.ScriptText.{script_text}
use Rattle.script.specs.Shown.{script_in}
use Rattle.script.specs.Answer.{refusal, exported, answered, script_answer, numbers, ScriptWritten}

module _ (s out : List ℕ) where
  refused_as : (r at : ℕ) (q : Written) → script_answer s (length out) ≡ refusal r at → q ≡ numbers (refusal r at)
      → ScriptWritten s out out q
  refused_as r at q e h = record { answer = h ∙ sym (ap numbers e); buffer = sym (ap (λ a. over a.bytes out) e) }

  pub trace_refuses : (r at : ℕ) → read_trace s ≡ Refused r at → (q : Written) → q ≡ numbers (refusal r at) → ScriptWritten s out out q
  unfolding script_answer
  trace_refuses r at e q = refused_as r at q (ap (answered (length out)) e)

  module _ (head : Head) (ts : List Stmt) (is : read_trace s ≡ Accepted head ts) where
    abbrev text : List ℕ
    text = script_text head.inputs ts

    script_is : script_in (read_trace s) ≡ text
    script_is = ap script_in is

    told : (b : Bool) → leb (length text) (length out) ≡ b → script_answer s (length out) ≡ cond b (exported text) (refusal 10 0)
    unfolding script_answer
    told b e = ap (answered (length out)) is ∙ ap (λ b. cond b (exported text) (refusal 10 0)) e

    pub no_room : length out < length (script_in (read_trace s)) → (q : Written) → q ≡ numbers (refusal 10 0) → ScriptWritten s out out q
    no_room h q = refused_as 10 0 q (told false (lt-leb (length text) (length out) (omega (arith, ap length script_is))))

    pub written : length (script_in (read_trace s)) ≤ length out → {out' : List ℕ} {n : ℕ} → Wrote out 0 (script_in (read_trace s)) out' n
        → ScriptWritten s out out' (record { reply = 0; offset = 0; length = n })
    written h {out'} {n} w =
        let a = told true (le-leb (length text) (length out) (omega (arith, ap length script_is))) in
        let z : n ≡ length text = omega (arith, w.next, ap length script_is) in
        record {
          answer = ap {B = Written} (λ l. record { reply = 0; offset = 0; length = l }) z ∙ sym (ap numbers a);
          buffer =
              w.buffer ∙ splice-over (script_in (read_trace s)) out h ∙ ap (λ bs. over bs out) script_is
              ∙ sym (ap (λ a. over a.bytes out) a);
        }
