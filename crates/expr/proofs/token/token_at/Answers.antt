use Rattle.std.proofs.Common.{sym, ap, ◌∙◌, arith}
use Rattle.std.specs.Prelude.{Option, Some}
use Rattle.expr.specs.declared.token.Token.{Token}
use Rattle.expr.specs.declared.token.Token.TheVariants.{Const, Symbol}
use Rattle.expr.proofs.Reading.{constant-short, constant-there, symbol-short, symbol-there, operator-high, nothing-low}
use Rattle.expr.proofs.token.token_at.Goals as goal

pub returns-then-code-gt-TRACE_SYMBOL : goal.returns-then-code-gt-TRACE_SYMBOL
returns-then-code-gt-TRACE_SYMBOL c = c.operator.ensures ∙ sym (operator-high _ _ _ c.requires c.if-code-gt-TRACE_SYMBOL.true)

pub returns-then-left-lt4 : goal.returns-then-left-lt4
returns-then-left-lt4 c = sym (constant-short _ _ _ c.requires c.if-code-eq-CONSTANT.true c.if-left-lt4.true)

pub returns-then-code-eq-CONSTANT : goal.returns-then-code-eq-CONSTANT
returns-then-code-eq-CONSTANT c =
    ap {B = Option Token} (λ n. Some (Const n)) c.word_at.ensures
    ∙ sym (constant-there _ _ _ c.requires c.if-code-eq-CONSTANT.true c.if-left-lt4.false)

pub returns-then-left-symbol_width : goal.returns-then-left-symbol_width
returns-then-left-symbol_width c =
    sym (symbol-short _ _ _ c.requires (c.if-code-symbol_code.true ∙ c.symbol_code.ensures) (omega arith))

pub returns-then-code-symbol_code : goal.returns-then-code-symbol_code
returns-then-code-symbol_code c =
    ap {B = Option Token} (λ n. Some (Symbol n)) c.symbol_at.ensures.0
    ∙ sym (symbol-there _ _ _ c.requires (c.if-code-symbol_code.true ∙ c.symbol_code.ensures) (omega arith))

pub returns : goal.returns
returns c =
    sym (nothing-low _ _ _ c.requires (omega arith) c.if-code-eq-CONSTANT.false (λ e. c.if-code-symbol_code.false (e ∙ sym
    c.symbol_code.ensures)))
