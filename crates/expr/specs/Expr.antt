-- Document 01, "Table and trace bytes": which bytes are an expression.
use Rattle.std.specs.Prelude.{◌≡◌, ℕ, zero, suc, ◌-◌, Bool, true, false, cond, ◌&&◌, ◌||◌, List, [], ◌∷◌, ◌==◌, nat_le, nat_lt}
use Rattle.std.specs.Prelude.{slice_index_or, Option, None, Some}
use Rattle.expr.specs.declared.File.{File}
use Rattle.expr.specs.declared.File.TheVariants.{Table, Trace}
use Rattle.expr.specs.declared.token.Token.{Token}
use Rattle.expr.specs.declared.token.Token.TheVariants.{Const, Symbol, Un, Bin, Ite}
use Rattle.expr.specs.Token.{operand_count, read_token}

-- the words that an expression may hold at most
abbrev pub depth_limit : File → ℕ
depth_limit Table = 16
depth_limit Trace = 17

-- the symbols that may be read in a table: those below S
abbrev pub below : (S : ℕ) → ℕ → Bool
below S s = nat_lt s S

-- and in a trace: inputs, and symbols assigned before
abbrev pub readable : (inputs : ℕ) (assigned : List Bool) → ℕ → Bool
readable inputs assigned s = nat_lt s inputs || slice_index_or assigned s false

-- how many words a token pops; each pushes one
abbrev pub pops : Token → ℕ
pops (Const n) = 0
pops (Symbol s) = 0
pops (Un o) = 1
pops (Bin o) = 2
pops Ite = 3

-- the depth after a token
abbrev pub after : (depth : ℕ) → Token → ℕ
after d t = suc (d - pops t)

-- a token reads only symbols that pass the test `may`
abbrev pub reads_only : (may : ℕ → Bool) → Token → Bool
reads_only may (Const n) = true
reads_only may (Symbol s) = may s
reads_only may (Un o) = true
reads_only may (Bin o) = true
reads_only may Ite = true

-- a token may stand where d words are held: it never pops an empty stack, holds no more than the limit, reads what may be read
unfoldable pub fits : (may : ℕ → Bool) (limit d : ℕ) → Token → Bool
fits may limit d t = nat_le (pops t) d && (nat_le (after d t) limit && reads_only may t)

-- an expression; or the bytes from its first breaking token on, none where only the number of words left is wrong
pub data Parsed : Type 0 where
  Whole : List Token → Parsed
  Breaks : List ℕ → Parsed

abbrev pub also : Token → Parsed → Parsed
also t (Whole e) = Whole (t ∷ e)
also t (Breaks bs) = Breaks bs

abbrev pub on_token : (F : File) (may : ℕ → Bool) (d : ℕ) (here : List ℕ) → Option Token → ((depth skip : ℕ) → Parsed) → Parsed
on_token F may d here None rest = Breaks here
on_token F may d here (Some t) rest =
    cond (fits may (depth_limit F) d t) (also t (rest (after d t) (operand_count F t))) (Breaks here)

-- from d words on; the first `skip` bytes are operands of the token before
unfoldable pub parse_from : (F : File) (may : ℕ → Bool) (d skip : ℕ) → List ℕ → Parsed
parse_from F may d skip [] = cond (d == 1) (Whole []) (Breaks [])
parse_from F may d (suc skip) (b ∷ bs) = parse_from F may d skip bs
parse_from F may d zero (b ∷ bs) = on_token F may d (b ∷ bs) (read_token F (b ∷ bs)) (λ e k. parse_from F may e k bs)

abbrev pub parse : (F : File) (may : ℕ → Bool) → List ℕ → Parsed
parse F may bs = parse_from F may 0 0 bs

-- ---- tokens that are an expression, from d words to z

abbrev pub Ok : (may : ℕ → Bool) (limit d z : ℕ) → List Token → Type 0
Ok may limit d z [] = d ≡ z
Ok may limit d z (t ∷ e) = (fits may limit d t ≡ true) × Ok may limit (after d t) z e
