-- What the code's values mean: its answers as functions of the definitions, and its array of words as a stack.
use Rattle.std.specs.Prelude.{◌≡◌, ℕ, zero, suc, ◌-◌, Bool, true, false, cond, List, [], ◌∷◌, length, slice_index, Option, None, Some}
use Rattle.std.specs.Prelude.{Result, Ok, Err}
use Rattle.expr.specs.declared.File.{File}
use Rattle.expr.specs.declared.token.Tokens.{Tokens}
use Rattle.expr.specs.declared.stack.Stack.{Stack}
use Rattle.expr.specs.declared.token.Token.{Token}
use Rattle.expr.specs.Token.{operand_count, read_token}
use Rattle.expr.specs.Expr.{after, fits, Parsed, Whole, Breaks}
use Rattle.expr.specs.Eval.{Env, step, eval, top}

-- ---- reading and checking

-- the token that stands at the front of bytes, and those that the rest holds behind its operands
abbrev pub token_then : (F : File) → Option Token → ((skip : ℕ) → List Token) → List Token
token_then F None rest = []
token_then F (Some t) rest = t ∷ rest (operand_count F t)

-- the tokens at the front of bytes, one after the other; the first `skip` bytes are operands of the token before
unfoldable pub tokens_from : (F : File) (skip : ℕ) → List ℕ → List Token
tokens_from F skip [] = []
tokens_from F (suc skip) (b ∷ bs) = tokens_from F skip bs
tokens_from F zero (b ∷ bs) = token_then F (read_token F (b ∷ bs)) (λ k. tokens_from F k bs)

-- those that the iterator has left
abbrev pub tokens_left : Tokens → List Token
tokens_left s = tokens_from s.file 0 s.rest.now

-- where d words are held: the depth that a token leaves, if it may stand there
abbrev pub left_by : (may : ℕ → Bool) (limit d : ℕ) → Token → Option ℕ
left_by may limit d t = cond (fits may limit d t) (Some (after d t)) None

-- of an expression of n bytes
abbrev pub checked : (n : ℕ) → Parsed → Result (Unit {0}) ℕ
checked n (Whole e) = Ok tt
checked n (Breaks bs) = Err (n - length bs)

-- ---- evaluating

abbrev pub is_whole : Parsed → Bool
is_whole (Whole e) = true
is_whole (Breaks bs) = false

abbrev pub tokens_of : Parsed → List Token
tokens_of (Whole e) = e
tokens_of (Breaks bs) = []

-- the first `depth` words of an array, the last first
unfoldable pub stack_of : (words : List ℕ) (depth : ℕ) → List ℕ
stack_of words zero = []
stack_of words (suc d) = slice_index words d ∷ stack_of words d

abbrev pub held : Stack → List ℕ
held s = stack_of s.words s.depth

-- the words held before and after, as a token makes of them
pub record Stepped (ρ : Env) (t : Token) (s s' : Stack) : Type 0 where
  pub deep : s'.depth ≡ after s.depth t
  pub words : held s' ≡ step ρ t (held s)
  pub long : length s'.words ≡ length s.words

-- the value of an expression from a stack on
abbrev pub value_from : Env → List ℕ → Parsed → ℕ
value_from ρ st (Whole e) = top (eval ρ e st)
value_from ρ st (Breaks bs) = 0

abbrev pub value_of : Env → Parsed → ℕ
value_of ρ p = value_from ρ [] p
