-- Request 2026-02: what a solver's answer to the script of a trace says of the trace, and of the rule if the trace is a written one, or its
-- slice.
use Rattle.std.specs.Prelude.{ℕ, ◌≤◌, ◌≡◌, true, ◌↔◌, List, length}
use Rattle.expr.specs.Lists.{All}
use Rattle.expr.specs.Word.{Word}
use Rattle.expr.specs.Eval.{Env, env_of}
use Rattle.file.specs.File.{header_inputs}
use Rattle.file.specs.Shown.{listed}
use Rattle.table.specs.Answer.{run_answer}
use Rattle.trace.specs.Trace.{read_trace}
use Rattle.trace.specs.Answer.{judge_answer}
use Rattle.trace.specs.Past.{values_past, OfWords}
use Rattle.slice.specs.Answer.{slice_answer}
use Rattle.script.specs.Smt.{Script, satisfies}
use Rattle.script.specs.Script.{script_of, inputs_of}
use Rattle.script.specs.Scope.{WellScoped}
use Rattle.script.specs.ScriptText.{text_of}
use Rattle.script.specs.Answer.{script_answer}

-- the script of the trace's bytes s
abbrev pub asked_by : (s : List ℕ) → Script
asked_by s = script_of (header_inputs s) (listed (read_trace s))

-- a solver is asked for a valuation of which F is true, by the script of the trace s
pub record AsksFor (s : List ℕ) (F : List ℕ → Type 0) : Type 0 where
  -- the script has a solution exactly if there is such a valuation
  pub satisfiable : ((τ : Env) × OfWords τ × (satisfies τ (asked_by s) ≡ true)) ↔ ((v : List ℕ) × F v)
  -- and the inputs of every solution are one
  pub solution : (τ : Env) → OfWords τ → satisfies τ (asked_by s) ≡ true → F (inputs_of (header_inputs s) τ)

-- ---- of any trace

-- judged with these words, the trace is unsafe
pub record Violated (s v : List ℕ) : Type 0 where
  pub inputs : length v ≡ header_inputs s
  pub words : All Word v
  pub unsafe : (judge_answer s v).verdict ≡ 1

-- s is a trace of which a script is written
pub record Posed (s : List ℕ) : Type 0 where
  -- what is written is its text
  pub text : (room : ℕ) → (script_answer s room).reply ≡ 0 → (script_answer s room).bytes ≡ text_of (asked_by s)
  -- every name in it is declared, or bound by a `let` around it, and none is declared twice
  pub scoped : WellScoped (asked_by s)
  -- it holds with the assigned symbols at their trace values, worked out past any stop, exactly if the trace is judged unsafe
  pub at_its_values : (v : List ℕ) → length v ≡ header_inputs s → All Word v
      → (satisfies (values_past (listed (read_trace s)) (env_of v)) (asked_by s) ≡ true) ↔ ((judge_answer s v).verdict ≡ 1)
  -- and it asks for what is judged unsafe
  pub asks : AsksFor s (Violated s)

-- ---- of a written trace, and of its slice

-- run under the bound, the table reaches a failing assertion with these words
pub record Fails (b : List ℕ) (K : ℕ) (v : List ℕ) : Type 0 where
  pub inputs : length v ≡ header_inputs b
  pub words : All Word v
  pub unsafe : (run_answer b K v).verdict ≡ 1

-- a solver is asked whether the table b can fail under the bound K, by the script of the trace s
pub record Asks (b : List ℕ) (K : ℕ) (s : List ℕ) : Type 0 where
  -- writing it refuses nothing, given room
  pub written : (room : ℕ) → length (text_of (asked_by s)) ≤ room → (script_answer s room).reply ≡ 0
  pub asks : AsksFor s (Fails b K)

-- t is the trace that is written of the table b under bound K
pub record Solver (b : List ℕ) (K : ℕ) (t : List ℕ) : Type 0 where
  pub whole : Asks b K t
  pub sliced : (room : ℕ) → (slice_answer t room).reply ≡ 0 → Asks b K (slice_answer t room).bytes
