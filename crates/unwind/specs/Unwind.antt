-- Document 01, "The trace under bound K": one opening statement, then one for each place, rising.
use Rattle.std.specs.Prelude.{ℕ, suc, List, [], ◌∷◌, ◌++◌}
use Rattle.expr.specs.declared.word.Binary.TheVariants.{Ule}
use Rattle.expr.specs.declared.token.Token.{Token}
use Rattle.expr.specs.declared.token.Token.TheVariants.{Const, Symbol, Bin, Ite}
use Rattle.expr.specs.Eval.{update, rename}
use Rattle.file.specs.Outcome.{Kind, Assume, Assert, Bound}
use Rattle.table.specs.Table.{Instr}
use Rattle.trace.specs.Trace.{Stmt, Assign, Test}
use Rattle.unwind.specs.Places.{Set, Check, Jump, Exit, Place, At, places}

-- the newest trace symbols: the current one of each program symbol, W for control, and the next new one
pub record Newest : Type 0 where
  pub current : ℕ → ℕ
  pub control : ℕ
  pub next : ℕ

-- W, constant j, ule, BODY, OLD, ite: place j is active when W is at most j
abbrev pub guarded : (W j : ℕ) (body : List Token) (old : Token) → List Token
guarded W j body old = (Symbol W ∷ Const j ∷ Bin Ule ∷ body) ++ old ∷ Ite ∷ []

-- the kind of statement that a test becomes; the bound's becomes `cut`
abbrev pub becomes : (cut : Kind) → Kind → Kind
becomes cut Assume = Assume
becomes cut Assert = Assert
becomes cut Bound = cut

-- the statement of a place
abbrev pub statement : (cut : Kind) → Newest → Place → Stmt
statement cut c (At j (Set s e)) = Assign j c.next (guarded c.control j (rename c.current e) (Symbol (c.current s)))
statement cut c (At j (Check k e)) = Test (becomes cut k) j (guarded c.control j (rename c.current e) (Const 1))
statement cut c (At j (Jump g e)) =
    Assign j c.next (guarded c.control j (rename c.current e ++ Const g ∷ Symbol c.control ∷ Ite ∷ []) (Symbol c.control))
statement cut c (At j (Exit g)) = Assign j c.next (guarded c.control j (Const g ∷ []) (Symbol c.control))

-- each Assign makes the next new symbol
abbrev pub makes_current : Newest → (s : ℕ) → Newest
makes_current c s = record { current = update c.current s c.next; control = c.control; next = suc c.next }

abbrev pub makes_control : Newest → Newest
makes_control c = record { current = c.current; control = c.next; next = suc c.next }

abbrev pub advance : Newest → Place → Newest
advance c (At j (Set s e)) = makes_current c s
advance c (At j (Check k e)) = c
advance c (At j (Jump g e)) = makes_control c
advance c (At j (Exit g)) = makes_control c

-- the newest symbols after some places
abbrev pub after : Newest → List Place → Newest
after c [] = c
after c (p ∷ ps) = after (advance c p) ps

abbrev pub statements : (cut : Kind) → Newest → List Place → List Stmt
statements cut c [] = []
statements cut c (p ∷ ps) = statement cut c p ∷ statements cut (advance c p) ps

-- at first the current symbol is the input itself; the opening makes the first W, and new symbols are counted from S
abbrev pub at_first : (S : ℕ) → Newest
at_first S = record { current = λ s. s; control = S; next = suc S }

abbrev pub opening : (S : ℕ) → Stmt
opening S = Assign 65535 S (Const 0 ∷ [])

unfoldable pub unwind : (cut : Kind) (S : ℕ) → List Instr → (K : ℕ) → List Stmt
unwind cut S is K = opening S ∷ statements cut (at_first S) (places is K)
