-- Document 01, "The slice": what is kept of a trace, walking from its last statement back.
use Rattle.std.specs.Prelude.{Bool, cond, ◌||◌, List, [], ◌∷◌}
use Rattle.trace.specs.Trace.{Stmt, Assign, Test, reads_trace}
use Rattle.trace.specs.Asserts.{is_assert, has_assert}

-- before `rest`, of which `kept` is kept: every Assert; an Assume, or a test of the bound, if an Assert follows; an Assign if its symbol
-- is needed, that is if a kept statement reads it
abbrev pub keep : Stmt → (rest kept : List Stmt) → Bool
keep (Assign p x e) rest kept = reads_trace x kept
keep (Test k p e) rest kept = is_assert k || has_assert rest

abbrev pub kept_before : Stmt → (rest kept : List Stmt) → List Stmt
kept_before t rest kept = cond (keep t rest kept) (t ∷ kept) kept

unfoldable pub slice : List Stmt → List Stmt
slice [] = []
slice (t ∷ ts) = kept_before t ts (slice ts)
