-- Document 01, "Arithmetic": the tokens and their bytes. A token is a constant with its word, a symbol with its number, or an operator: the
-- code's type, which `src/token.rt` declares.
use Rattle.std.specs.Prelude.{ℕ, cond, List, [], ◌∷◌, ◌++◌, length, ◌==◌, nat_le, Option, None, Some}
use Rattle.expr.specs.declared.File.{File}
use Rattle.expr.specs.declared.File.TheVariants.{Table, Trace}
use Rattle.expr.specs.declared.word.Unary.{Unary}
use Rattle.expr.specs.declared.word.Unary.TheVariants.{Not, Neg, Zero}
use Rattle.expr.specs.declared.word.Binary.{Binary}
use Rattle.expr.specs.declared.word.Binary.TheVariants.{Add, Sub, Mul, Udiv, Urem, And, Or, Xor, Shl, Lshr, Equal, Ult, Ule, Slt}
use Rattle.expr.specs.Number.{number_of, bytes_of}
use Rattle.expr.specs.declared.token.Token.{Token}
use Rattle.expr.specs.declared.token.Token.TheVariants.{Const, Symbol, Un, Bin, Ite}

-- a symbol's byte: one form in tables only, one in traces only
abbrev pub symbol_code : File → ℕ
symbol_code Table = 0x02
symbol_code Trace = 0x03

-- the bytes of its number
abbrev pub symbol_width : File → ℕ
symbol_width Table = 1
symbol_width Trace = 2

-- ---- the list of tokens

abbrev pub unary_code : Unary → ℕ
unary_code Not = 0x10
unary_code Neg = 0x11
unary_code Zero = 0x12

abbrev pub binary_code : Binary → ℕ
binary_code Add = 0x20
binary_code Sub = 0x21
binary_code Mul = 0x22
binary_code Udiv = 0x23
binary_code Urem = 0x24
binary_code And = 0x25
binary_code Or = 0x26
binary_code Xor = 0x27
binary_code Shl = 0x28
binary_code Lshr = 0x29
binary_code Equal = 0x2A
binary_code Ult = 0x2B
binary_code Ule = 0x2D
binary_code Slt = 0x2C

-- a token's first byte
abbrev pub code : File → Token → ℕ
code F (Const n) = 0x01
code F (Symbol s) = symbol_code F
code F (Un o) = unary_code o
code F (Bin o) = binary_code o
code F Ite = 0x30

-- the bytes after the code
abbrev pub operands : File → Token → List ℕ
operands F (Const n) = bytes_of 4 n
operands F (Symbol s) = bytes_of (symbol_width F) s
operands F (Un o) = []
operands F (Bin o) = []
operands F Ite = []

abbrev pub operand_count : File → Token → ℕ
operand_count F (Const n) = 4
operand_count F (Symbol s) = symbol_width F
operand_count F (Un o) = 0
operand_count F (Bin o) = 0
operand_count F Ite = 0

-- ---- writing

abbrev pub token_bytes : File → Token → List ℕ
token_bytes F t = code F t ∷ operands F t

abbrev pub expr_bytes : File → List Token → List ℕ
expr_bytes F [] = []
expr_bytes F (t ∷ e) = token_bytes F t ++ expr_bytes F e

-- ---- reading

abbrev pub operators : List Token
operators =
    Un Not ∷ Un Neg ∷ Un Zero
    ∷ Bin Add ∷ Bin Sub ∷ Bin Mul ∷ Bin Udiv ∷ Bin Urem ∷ Bin And ∷ Bin Or ∷ Bin Xor ∷ Bin Shl ∷ Bin Lshr
    ∷ Bin Equal ∷ Bin Ult ∷ Bin Ule ∷ Bin Slt ∷ Ite ∷ []

-- the one of these tokens that has the code b, which is the same in both kinds of file
abbrev pub coded : (b : ℕ) → List Token → Option Token
coded b [] = None
coded b (t ∷ ts) = cond (b == code Table t) (Some t) (coded b ts)

unfoldable pub operator : (b : ℕ) → Option Token
operator b = coded b operators

-- a token with a number of k bytes, where all of them are there
abbrev pub operand : (k : ℕ) → (ℕ → Token) → List ℕ → Option Token
operand k token bs = cond (nat_le k (length bs)) (Some (token (number_of k bs))) None

-- the token at the front of a list of bytes
unfoldable pub read_token : File → List ℕ → Option Token
read_token F [] = None
read_token F (b ∷ bs) =
    cond (b == 0x01) (operand 4 Const bs)
    (cond (b == symbol_code F) (operand (symbol_width F) Symbol bs) (operator b))
