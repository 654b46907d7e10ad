-- Document 01, "Arithmetic" and "Table and trace bytes", and request 2026-08: an expression's rules over its bytes, and where they break.
-- The parser is not cited: codes, operands, what a token pops and the limits 16 and 17 are written out here, so that its tests are held to
-- them. `may` says which symbols may be read.
use Rattle.std.specs.Prelude.{ℕ, ◌+◌, ◌-◌, ◌≤◌, ◌<◌, ◌≡◌, Bool, true, List, length, drop, get_or}
use Rattle.expr.specs.declared.File.{File}
use Rattle.expr.specs.declared.File.TheVariants.{Table, Trace}
use Rattle.expr.specs.Number.{number_of}

-- a symbol is 0x02 and one byte in a table, 0x03 and two bytes in a trace
abbrev pub symbol_byte : File → ℕ
symbol_byte Table = 0x02
symbol_byte Trace = 0x03

abbrev pub symbol_bytes : File → ℕ
symbol_bytes Table = 1
symbol_bytes Trace = 2

-- never more than 16 words in a table, 17 in a trace
abbrev pub most_words : File → ℕ
most_words Table = 16
most_words Trace = 17

-- where d words are held, a token that keeps the rules stands at byte i, has `size` bytes and leaves `after` words
pub data Keeps (F : File) (may : ℕ → Bool) (e : List ℕ) (i d : ℕ) : (size after : ℕ) → Type 0 where
  constant : get_or e i 0 ≡ 0x01 → i + 5 ≤ length e → d < most_words F → Keeps F may e i d 5 (d + 1)
  symbol : get_or e i 0 ≡ symbol_byte F → i + (1 + symbol_bytes F) ≤ length e → d < most_words F
      → may (number_of (symbol_bytes F) (drop (i + 1) e)) ≡ true → Keeps F may e i d (1 + symbol_bytes F) (d + 1)
  unary : 0x10 ≤ get_or e i 0 → get_or e i 0 ≤ 0x12 → 1 ≤ d → Keeps F may e i d 1 d
  binary : 0x20 ≤ get_or e i 0 → get_or e i 0 ≤ 0x2D → 2 ≤ d → Keeps F may e i d 1 (d - 1)
  ite : get_or e i 0 ≡ 0x30 → 3 ≤ d → Keeps F may e i d 1 (d - 2)

-- the first i bytes are tokens that keep the rules, and d words are held behind them
pub data Kept (F : File) (may : ℕ → Bool) (e : List ℕ) : (i d : ℕ) → Type 0 where
  nothing : Kept F may e 0 0
  token : (i d size after : ℕ) → Kept F may e i d → Keeps F may e i d size after → Kept F may e (i + size) after

-- an expression: such tokens to the end, which leave one word
abbrev pub IsExpr : File → (may : ℕ → Bool) (e : List ℕ) → Type 0
IsExpr F may e = Kept F may e (length e) 1

-- the rules break at byte i: no token that keeps them stands there; or it is the end, and other than one word is held
pub data BreaksAt (F : File) (may : ℕ → Bool) (e : List ℕ) (i : ℕ) : Type 0 where
  at-token : (d : ℕ) → Kept F may e i d → i < length e → ((size after : ℕ) → Keeps F may e i d size after → ⊥) → BreaksAt F may e i
  at-end : (d : ℕ) → Kept F may e i d → i ≡ length e → (d ≡ 1 → ⊥) → BreaksAt F may e i
