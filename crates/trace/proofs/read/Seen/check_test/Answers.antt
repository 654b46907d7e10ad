use Prim.Native.Nat.{◌+◌}
use mathlib.Core.Path.{sym, ap, ◌∙◌}
use Rattle.std.specs.Prelude.{Err}
use Rattle.file.specs.Shown.{fault_in}
use Rattle.trace.specs.Shown.{seen_in}
use Rattle.trace.proofs.Bodies.{test_short, test-expr}
use Rattle.trace.proofs.read.Seen.check_test.Goals as goal

pub returns-then-body-lt3 : goal.returns-then-body-lt3
returns-then-body-lt3 c =
    let v = c.args.self.now in
    ap (λ f. fault_in (Err f)) c.into.ensures
    ∙ sym (test_short (v.inputs + 4096) (seen_in v) c.args.body.now c.requires.1 c.requires.0 c.if-body-lt3.true)

pub returns : goal.returns
returns c =
    let v = c.args.self.now in
    c.check_expr.ensures
    ∙ sym (test-expr (v.inputs + 4096) (seen_in v) c.args.body.now c.requires.1 c.requires.0 c.if-body-lt3.false)
