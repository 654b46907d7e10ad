-- The answer to judging, by the way that the code takes to it: the trace is refused, the valuation is refused, the trace is judged.
use Prim.Native.Nat.{ℕ, ◌+◌, ◌≤◌, ◌<◌}
use mathlib.Core.Path.{◌≡◌, sym, ap, ◌∙◌, subst}
use mathlib.Core.Bool.{Bool, cond}
use mathlib.Core.List.{List}
use lib.ListN.{length}
use lib.Dec.{eqb}
use borrow.Author.Tests.{eq-eqb, ne_eqb}
use Rattle.expr.specs.Lists.{All}
use Rattle.expr.specs.Number.{Byte}
use Rattle.expr.specs.Eval.{env_of}
use Rattle.file.specs.File.{Head, header_version, header_inputs, header_count, head_of, header_reply, Body, Accepted, Refused}
use Rattle.file.specs.Shown.{listed}
use Rattle.file.proofs.FileLaws.{Header}
use Rattle.file.proofs.ReadingLaws as Reading
use Rattle.std.specs.Prelude.{Result, Ok, Err}
use Rattle.file.specs.Shown.{reply_of}
use Rattle.file.specs.declared.Reason.{Reason}
use Rattle.file.specs.declared.Unread.{Unread}
use Rattle.trace.specs.Trace.{Stmt, Seen, see, at_first, stmt, is_trace, tells_bound, read_trace}
use Rattle.trace.specs.TraceLaws.{stmt-low}
use Rattle.trace.specs.Judge.{judge}
use Rattle.trace.specs.Answer.{refusal, answer_of, answered, judge_answer}
use Rattle.trace.specs.Shown.{ReadRecords, ReadTrace, Ready}

-- ---- the trace is read

abbrev one : (head : Head) (n : ℕ) → Seen → List ℕ → Body Stmt
one head n = stmt (head.inputs + 4096)

module _ (s : List ℕ) where
  pub header_read : (reason : Reason) → reply_of reason ≡ header_reply is_trace 4096 s → (off : List ℕ)
      → ReadTrace s off off (Err (record { why = record { reason = reason; offset = 0 }; count = 0 }))
  unfolding read_trace
  header_read = Reading.header_read is_trace 4096 one see at_first s

  -- with the code's own numbers of inputs and records
  pub records-read : header_reply is_trace 4096 s ≡ 0 → {S n : ℕ} {b : Bool} → S ≡ header_inputs s → b ≡ tells_bound (header_version s)
      → n ≡ header_count s → {off off' : List ℕ} {r : Result ℕ Unread} → ReadRecords s S b n off off' r → ReadTrace s off off' r
  unfolding read_trace
  records-read h {S} {n} {b} i t e {off} {off'} {r} w = Reading.records-read is_trace 4096 one see at_first s h
      (subst (λ n. ReadRecords s (header_inputs s) (tells_bound (header_version s)) n off off' r) e
      (subst (λ b. ReadRecords s (header_inputs s) b n off off' r) t (subst (λ S. ReadRecords s S b n off off' r) i w)))

pub offset-small : {s off off' : List ℕ} {u : Unread} → ReadTrace s off off' (Err u) → All Byte s → u.why.offset < 65536
unfolding read_trace
offset-small {s} w = Reading.offset-small is_trace 4096 one see at_first s w

module _ {s off off' : List ℕ} {m : ℕ} (w : ReadTrace s off off' (Ok m)) where
  pub trace_accepted : read_trace s ≡ Accepted (head_of s) (listed (read_trace s))
  unfolding read_trace
  trace_accepted = Reading.is-accepted is_trace 4096 one see at_first s w (λ head n. stmt-low (head.inputs + 4096))

  pub right-header : Header is_trace 4096 s
  unfolding read_trace
  right-header = Reading.right-header is_trace 4096 one see at_first s w (λ head n. stmt-low (head.inputs + 4096))

  pub is-ready : 4096 ≤ length off → Ready s off' m
  unfolding read_trace
  is-ready = Reading.is-ready is_trace 4096 one see at_first s w (λ head n. stmt-low (head.inputs + 4096))

-- ---- the answer

module _ (s words : List ℕ) where
  pub trace_refuses : (r at : ℕ) → read_trace s ≡ Refused r at → refusal r at ≡ judge_answer s words
  unfolding judge_answer
  trace_refuses r at e = sym (ap (answered words) e)

  module _ (head : Head) (ts : List Stmt) (e : read_trace s ≡ Accepted head ts) where
    opened : judge_answer s words ≡ cond (eqb (length words) head.inputs) (answer_of (judge ts (env_of words))) (refusal 11 0)
    unfolding judge_answer
    opened = ap (answered words) e

    pub valuation_refused : (length words ≡ head.inputs → ⊥) → refusal 11 0 ≡ judge_answer s words
    valuation_refused n = sym (opened ∙ rw (ne_eqb (length words) head.inputs n))

    pub judged : length words ≡ head.inputs → (cells : List ℕ) → env_of cells ≡ env_of words
        → answer_of (judge ts (env_of cells)) ≡ judge_answer s words
    judged l cells v = ap (λ σ. answer_of (judge ts σ)) v ∙ sym (opened ∙ rw (eq-eqb (length words) head.inputs l))
