-- Document 01, "The slice": which statements are Asserts, and what of a trace stands up to its last one.
use Rattle.std.specs.Prelude.{Bool, true, false, cond, ◌||◌, List, [], ◌∷◌}
use Rattle.file.specs.Outcome.{Kind, Assume, Assert, Bound}
use Rattle.trace.specs.Trace.{Stmt, Assign, Test}

abbrev pub is_assert : Kind → Bool
is_assert Assume = false
is_assert Assert = true
is_assert Bound = false

abbrev pub has_assert : List Stmt → Bool
has_assert [] = false
has_assert (Assign p x e ∷ ts) = has_assert ts
has_assert (Test k p e ∷ ts) = is_assert k || has_assert ts

-- a trace up to its last Assert, or nothing
abbrev pub asserted : List Stmt → List Stmt
asserted [] = []
asserted (t ∷ ts) = cond (has_assert (t ∷ ts)) (t ∷ asserted ts) []
