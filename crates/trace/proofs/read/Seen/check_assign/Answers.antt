use Prim.Native.Nat.{◌+◌}
use native.Mathlib.Omega.{arith}
use mathlib.Core.Path.{sym, ap, ◌∙◌}
use Rattle.std.specs.Prelude.{Err}
use Rattle.file.specs.Shown.{fault_in}
use Rattle.file.proofs.FileLaws.{symbols_in_two-bytes}
use Rattle.trace.specs.Shown.{seen_in}
use Rattle.trace.proofs.Bodies.{assign-short, assign-low, assign_high, assign-expr}
use Rattle.trace.proofs.read.Seen.check_assign.Goals as goal

pub returns-then-body-lt5 : goal.returns-then-body-lt5
returns-then-body-lt5 c =
    let v = c.args.self.now in
    ap (λ f. fault_in (Err f)) c.into.ensures
    ∙ sym (assign-short (v.inputs + 4096) (seen_in v) c.args.body.now c.requires.1 c.requires.0 c.if-body-lt5.true)

pub returns-then-symbol-self : goal.returns-then-symbol-self
returns-then-symbol-self c =
    let v = c.args.self.now in
    ap (λ f. fault_in (Err f)) c.into-then-symbol-self.ensures
    ∙ sym (assign-low (v.inputs + 4096) (seen_in v) c.args.body.now c.requires.1 c.requires.0 c.if-body-lt5.false
    (rw c.two_at-symbol.ensures.0 at c.if-symbol-self.true))

pub overflow_add-self : goal.overflow_add-self
overflow_add-self c = grind (arith, symbols_in_two-bytes)

pub returns-then-self-symbol : goal.returns-then-self-symbol
returns-then-self-symbol c =
    let v = c.args.self.now in
    ap (λ f. fault_in (Err f)) c.into-then-self-symbol.ensures
    ∙ sym (assign_high (v.inputs + 4096) (seen_in v) c.args.body.now c.requires.1 c.requires.0 c.if-body-lt5.false
    (rw c.two_at-symbol.ensures.0 at c.if-symbol-self.false) (rw c.two_at-symbol.ensures.0 at c.if-self-symbol.true))

pub returns : goal.returns
returns c =
    let v = c.args.self.now in
    c.check_expr.ensures
    ∙ sym (assign-expr (v.inputs + 4096) (seen_in v) c.args.body.now c.requires.1 c.requires.0 c.if-body-lt5.false
    (rw c.two_at-symbol.ensures.0 at c.if-symbol-self.false) (rw c.two_at-symbol.ensures.0 at c.if-self-symbol.false))
