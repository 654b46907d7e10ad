-- The same over bytes and answers: what the public calls are proved to give, `judge_answer` of `judge` and `script_answer` of
-- `write_script`.
use Rattle.std.specs.Prelude.{ℕ, ◌≤◌, ◌≡◌, Bool, cond, ◌↔◌, List, length, leb}
use Rattle.std.proofs.Common.{arith, sym, ◌∙◌, eq-eqb, le-leb}
use Rattle.std.proofs.Math.Path.{refl, ap}
use Rattle.std.proofs.Math.Bool.{true, false}
use Rattle.expr.specs.Lists.{All}
use Rattle.expr.specs.Number.{Byte}
use Rattle.expr.specs.Word.{Word}
use Rattle.expr.specs.Eval.{Env, env_of}
use Rattle.file.specs.OutcomeLaws.{unsafe-verdict}
use Rattle.file.specs.File.{Head, Input, Accepted, Refused}
use Rattle.trace.specs.Trace.{Stmt, read_trace}
use Rattle.trace.specs.TraceLaws.{trace_refused-low}
use Rattle.trace.specs.WellFormed.{trace_ok}
use Rattle.trace.specs.Judge.{judge}
use Rattle.trace.specs.Answer as Judging
use Rattle.trace.specs.Answer.{judge_answer, answer_of}
use Rattle.trace.specs.Past.{values_past, OfWords}
use Rattle.script.specs.Smt.{satisfies}
use Rattle.script.specs.Script.{script_of, inputs_of}
use Rattle.script.proofs.ScriptLaws.{inputs-length, inputs-words, export_violated, model_violates, sat_iff}
use Rattle.script.specs.Scope.{WellScoped}
use Rattle.script.proofs.ScopeLaws.{script_scoped}
use Rattle.script.specs.ScriptText.{text_of, script_text}
use Rattle.script.specs.Answer.{exported, refusal, answered, script_answer}

-- a script is written of an accepted trace alone
pub script_accepted : (s : List ℕ) (room : ℕ) → (script_answer s room).reply ≡ 0
    → (head : Head) × (ts : List Stmt) × (read_trace s ≡ Accepted head ts)
unfolding script_answer
script_accepted s room done = go (read_trace s) refl
  where
    go : (i : Input Stmt) → read_trace s ≡ i → (head : Head) × (ts : List Stmt) × (read_trace s ≡ Accepted head ts)
    go (Accepted head ts) e = (head, ts, e)
    go (Refused r at) e = absurd (omega (arith, trace_refused-low s r at e, ap (λ i. (answered room i).reply) e, done))

module _ (s : List ℕ) (head : Head) (ts : List Stmt) (is : read_trace s ≡ Accepted head ts) where
  abbrev S : ℕ
  S = head.inputs

  -- what is written is the text of the trace's script
  pub script_bytes : (room : ℕ) → (script_answer s room).reply ≡ 0 → (script_answer s room).bytes ≡ text_of (script_of S ts)
  unfolding script_answer script_text
  script_bytes room done =
      ap (λ i. (answered room i).bytes) is
      ∙ go (leb (length (text_of (script_of S ts))) room) (sym (ap (λ i. (answered room i).reply) is) ∙ done)
    where
      go : (b : Bool) → (cond b (exported (text_of (script_of S ts))) (refusal 10 0)).reply ≡ 0
          → (cond b (exported (text_of (script_of S ts))) (refusal 10 0)).bytes ≡ text_of (script_of S ts)
      go true z = refl
      go false z = absurd (omega arith)

  -- given room, nothing is refused
  pub script_done : (room : ℕ) → length (text_of (script_of S ts)) ≤ room → (script_answer s room).reply ≡ 0
  unfolding script_answer script_text
  script_done room h =
      ap (λ i. (answered room i).reply) is
      ∙ ap (λ b. (cond b (exported (text_of (script_of S ts))) (refusal 10 0)).reply) (le-leb (length (text_of (script_of S ts))) room h)

  judged : (v : List ℕ) → length v ≡ S → (judge_answer s v).verdict ≡ (answer_of (judge ts (env_of v))).verdict
  unfolding judge_answer
  judged v l =
      ap (λ i. (Judging.answered v i).verdict) is
      ∙ ap (λ b. (cond b (answer_of (judge ts (env_of v))) (Judging.refusal 11 0)).verdict) (eq-eqb (length v) S l)

  module _ (o : All Byte s) where
    -- every name in it is declared, or bound, and none is declared twice
    pub script_well_scoped : WellScoped (script_of S ts)
    script_well_scoped = script_scoped head ts (trace_ok s head ts o is).ok

    -- judging answers unsafe exactly if the script holds, with the assigned symbols at their trace values
    pub script_judges : (v : List ℕ) → length v ≡ S → All Word v
        → (satisfies (values_past ts (env_of v)) (script_of S ts) ≡ true) ↔ ((judge_answer s v).verdict ≡ 1)
    script_judges v l w =
        let e = export_violated head ts (trace_ok s head ts o is).ok v w in
        let u = unsafe-verdict (judge ts (env_of v)) in
        (λ q. judged v l ∙ u.1 (sym e ∙ q), λ q. e ∙ u.0 (sym (judged v l) ∙ q))

    -- the inputs of a solver's model are a valuation, and judged again they are unsafe
    pub model_judged-unsafe : (τ : Env) → OfWords τ → satisfies τ (script_of S ts) ≡ true
        → (length (inputs_of S τ) ≡ S) × All Word (inputs_of S τ) × ((judge_answer s (inputs_of S τ)).verdict ≡ 1)
    model_judged-unsafe τ w q =
        let l = inputs-length τ 0 S in
        let u = unsafe-verdict (judge ts (env_of (inputs_of S τ))) in
        (l, inputs-words τ 0 S w, judged (inputs_of S τ) l ∙ u.1 (model_violates head ts (trace_ok s head ts o is).ok τ w q))

    -- a solver answers `sat` exactly if some valuation is judged unsafe
    pub script_sat : ((τ : Env) × OfWords τ × (satisfies τ (script_of S ts) ≡ true))
        ↔ ((v : List ℕ) × (length v ≡ S) × All Word v × ((judge_answer s v).verdict ≡ 1))
    script_sat = (
      λ m. let j = model_judged-unsafe m.0 m.1 m.2 in (inputs_of S m.0, j.0, j.1, j.2),
      λ m. (sat_iff head ts (trace_ok s head ts o is).ok).1
          (m.0, m.1, m.2, (unsafe-verdict (judge ts (env_of m.0))).0 (sym (judged m.0 m.1) ∙ m.3)),
    )
