-- The operand stack as a record: what pushing and popping make of it.
use Rattle.std.specs.Prelude.{ℕ, ◌+◌, ◌-◌, replicate, slice_index, slice_set}
use Rattle.expr.specs.declared.stack.Stack.{Stack}

-- no word is held
unfoldable pub empty_stack : Stack
empty_stack = record { depth = 0; words = replicate 17 0 }

-- the word stands behind those that are held
abbrev pub pushed_on : Stack → (w : ℕ) → Stack
pushed_on s w = record { depth = s.depth + 1; words = slice_set s.words s.depth w }

-- the last word that is held
abbrev pub top_of : Stack → ℕ
top_of s = slice_index s.words (s.depth - 1)

-- one word fewer is held
abbrev pub without_top : Stack → Stack
without_top s = record { depth = s.depth - 1; words = s.words }
