-- Request 2026-02: the symbols at their trace values, worked out past any stop; and valuations of words.
use Rattle.std.specs.Prelude.{ℕ, List, [], ◌∷◌}
use Rattle.expr.specs.Word.{Word}
use Rattle.expr.specs.Eval.{Env, update, value}
use Rattle.trace.specs.Trace.{Stmt, Assign, Test}

-- every Assign, whether or not a test before it is false
unfoldable pub values_past : List Stmt → Env → Env
values_past [] σ = σ
values_past (Assign p x e ∷ ts) σ = values_past ts (update σ x (value σ e))
values_past (Test k p e ∷ ts) σ = values_past ts σ

-- every symbol's value is a word
abbrev pub OfWords : Env → Type 0
OfWords σ = (x : ℕ) → Word (σ x)
