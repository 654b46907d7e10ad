use native.Mathlib.Omega.{arith}
use mathlib.Core.Path.{sym, ap, ◌∙◌}
use Rattle.file.specs.Shown.{fault_in}
use Rattle.std.specs.Prelude.{Err}
use Rattle.table.proofs.Bodies.{assign-short, assign-rule, assign-expr, goto_short, goto_rule, goto_expr, test-expr, unknown}
use Rattle.table.proofs.read.body_fault.Goals as goal

pub returns-then-body-lt2 : goal.returns-then-body-lt2
returns-then-body-lt2 c =
    ap (λ f. fault_in (Err f)) c.into.ensures
    ∙ sym (assign-short c.args.inputs c.args.n c.args.body.now c.requires c.in-1.is c.if-body-lt2.true)

pub returns-then-inputs-byte_at : goal.returns-then-inputs-byte_at
returns-then-inputs-byte_at c =
    ap (λ f. fault_in (Err f)) c.into-then-inputs-byte_at.ensures
    ∙ sym (assign-rule c.args.inputs c.args.n c.args.body.now c.requires c.in-1.is
    c.if-body-lt2.false (rw c.byte_at.ensures.0 at c.if-inputs-byte_at.true))

pub returns-else-inputs-byte_at : goal.returns-else-inputs-byte_at
returns-else-inputs-byte_at c = c.expr_fault.ensures
    ∙ sym (assign-expr c.args.inputs c.args.n c.args.body.now c.requires c.in-1.is
    c.if-body-lt2.false (rw c.byte_at.ensures.0 at c.if-inputs-byte_at.false))

pub returns-then-body-lt3 : goal.returns-then-body-lt3
returns-then-body-lt3 c =
    ap (λ f. fault_in (Err f)) c.into-then-body-lt3.ensures
    ∙ sym (goto_short c.args.inputs c.args.n c.args.body.now c.requires c.in-4.is c.if-body-lt3.true)

pub returns-then-n-two_at : goal.returns-then-n-two_at
returns-then-n-two_at c =
    ap (λ f. fault_in (Err f)) c.into-then-n-two_at.ensures
    ∙ sym (goto_rule c.args.inputs c.args.n c.args.body.now c.requires c.in-4.is
    c.if-body-lt3.false (rw c.two_at.ensures.0 at c.if-n-two_at.true))

pub returns-else-n-two_at : goal.returns-else-n-two_at
returns-else-n-two_at c = c.expr_fault-in-4.ensures
    ∙ sym (goto_expr c.args.inputs c.args.n c.args.body.now c.requires c.in-4.is
    c.if-body-lt3.false (rw c.two_at.ensures.0 at c.if-n-two_at.false))

pub returns-in-2 : goal.returns-in-2
returns-in-2 c =
    c.expr_fault-in-2.ensures
    ∙ sym (test-expr c.args.inputs c.args.n c.args.body.now c.requires (omega arith) (omega arith))

pub returns-in_default : goal.returns-in_default
returns-in_default c =
    ap (λ f. fault_in (Err f)) c.into-in_default.ensures
    ∙ sym (unknown c.args.inputs c.args.n c.args.body.now c.requires (λ e. omega arith) (λ e. omega arith) (λ e. omega arith)
    (λ e. omega arith))
