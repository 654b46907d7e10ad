-- Document 01, "Arithmetic": what an expression computes, on a stack of words with the last pushed first.
use Rattle.std.specs.Prelude.{ℕ, Bool, false, cond, ◌||◌, List, [], ◌∷◌, map, ◌==◌, slice_index}
use Rattle.expr.specs.declared.word.Unary.{Unary}
use Rattle.expr.specs.declared.word.Binary.{Binary}
use Rattle.expr.specs.Word.{unary, binary, choice}
use Rattle.expr.specs.declared.token.Token.{Token}
use Rattle.expr.specs.declared.token.Token.TheVariants.{Const, Symbol, Un, Bin, Ite}

-- the value of each symbol
abbrev pub Env : Type 0
Env = ℕ → ℕ

-- the values that a list holds, from symbol 0 on
abbrev pub env_of : List ℕ → Env
env_of vals x = slice_index vals x

-- the same but for one symbol
abbrev pub update : Env → (s v : ℕ) → Env
update ρ s v x = cond (x == s) v (ρ x)

-- a binary operator's left operand is pushed first, and so are c, a, b of an ite
abbrev pub push_unary : Unary → List ℕ → List ℕ
push_unary o [] = []
push_unary o (a ∷ st) = unary 32 o a ∷ st

abbrev pub push_binary : Binary → List ℕ → List ℕ
push_binary o [] = []
push_binary o (b ∷ []) = []
push_binary o (b ∷ a ∷ st) = binary 32 o a b ∷ st

abbrev pub push_ite : List ℕ → List ℕ
push_ite [] = []
push_ite (b ∷ []) = []
push_ite (b ∷ a ∷ []) = []
push_ite (b ∷ a ∷ c ∷ st) = choice c a b ∷ st

abbrev pub step : Env → Token → List ℕ → List ℕ
step ρ (Const n) st = n ∷ st
step ρ (Symbol s) st = ρ s ∷ st
step ρ (Un o) st = push_unary o st
step ρ (Bin o) st = push_binary o st
step ρ Ite st = push_ite st

abbrev pub eval : Env → List Token → List ℕ → List ℕ
eval ρ [] st = st
eval ρ (t ∷ e) st = eval ρ e (step ρ t st)

abbrev pub top : List ℕ → ℕ
top [] = 0
top (a ∷ st) = a

-- the word that an expression leaves
unfoldable pub value : Env → List Token → ℕ
value ρ e = top (eval ρ e [])

-- ---- the symbols of an expression

abbrev pub rename_token : (ℕ → ℕ) → Token → Token
rename_token f (Const n) = Const n
rename_token f (Symbol s) = Symbol (f s)
rename_token f (Un o) = Un o
rename_token f (Bin o) = Bin o
rename_token f Ite = Ite

abbrev pub rename : (ℕ → ℕ) → List Token → List Token
rename f e = map (rename_token f) e

abbrev pub reads_token : (x : ℕ) → Token → Bool
reads_token x (Const n) = false
reads_token x (Symbol s) = x == s
reads_token x (Un o) = false
reads_token x (Bin o) = false
reads_token x Ite = false

abbrev pub reads : (x : ℕ) → List Token → Bool
reads x [] = false
reads x (t ∷ e) = reads_token x t || reads x e
