-- What the code's values mean: its answers as functions of the definitions.
use Rattle.std.specs.Prelude.{ℕ, ◌≡◌, Bool, List, length, get_or}
use Rattle.expr.specs.declared.File.TheVariants.{Table}
use Rattle.expr.specs.declared.token.Token.{Token}
use Rattle.expr.specs.Expr.{below, parse}
use Rattle.expr.specs.Shown.{tokens_of}
use Rattle.expr.specs.Eval.{rename}
use Rattle.file.specs.Outcome.{Bound}
use Rattle.file.specs.File.{input_room, Body, Good, Bad, records_bytes}
use Rattle.table.specs.Table.{Instr}
use Rattle.table.specs.Run.{place_in}
use Rattle.trace.specs.Trace.{stmt_bytes}
use Rattle.write.specs.Splice.{Wrote}
use Rattle.unwind.specs.Places.{Exit, Place, At, action_in}
use Rattle.unwind.specs.Unwind.{Newest, statements}
use Rattle.unwind.specs.Unwind.{after}
use Rattle.unwind.specs.Size.{instr_size}
use Rattle.unwind.specs.declared.copy.Front.{Front}

-- ---- the newest symbols

-- the current symbol of each program symbol; at first, and past the end, the symbol itself
abbrev pub current_of : (names : List ℕ) → ℕ → ℕ
current_of names s = get_or names s s

abbrev pub newest_of : (names : List ℕ) (control next : ℕ) → Newest
newest_of names control next = record { current = current_of names; control = control; next = next }

-- ---- expressions

-- every symbol that a table can have
abbrev pub known : ℕ → Bool
known = below input_room

-- the tokens of a table's expression, and the same with the current symbols
abbrev pub tokens_in : (names expr : List ℕ) → List Token
tokens_in names expr = tokens_of (parse Table (below (length names)) expr)

abbrev pub renamed : (names expr : List ℕ) → List Token
renamed names expr = rename (current_of names) (tokens_in names expr)

-- ---- places

-- instruction i in copy r, that a record holds
abbrev pub place_of : (n K r i : ℕ) → Body Instr → Place
place_of n K r i (Good x) = At (place_in n r i) (action_in n K r i x)
place_of n K r i (Bad reply) = At (place_in n r i) (Exit 0)

-- places written from `to` on: their records, and the newest symbols then
pub record Written (c : Newest) (ps : List Place) (out : List ℕ) (to : ℕ) (out' names' : List ℕ) (f : Front) : Type 0 where
  pub wrote : Wrote out to (records_bytes stmt_bytes (statements Bound c ps)) out' f.to
  pub newest : newest_of names' f.control f.next ≡ after c ps

-- ---- sizes

-- the bytes of the record of instruction i, that a record holds
abbrev pub size_in : (last : Bool) (i : ℕ) → Body Instr → ℕ
size_in last i (Good x) = instr_size last i x
size_in last i (Bad reply) = 0
