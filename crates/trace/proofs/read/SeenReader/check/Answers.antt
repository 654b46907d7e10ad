use Prim.Native.Nat.{◌+◌}
use native.Mathlib.Omega.{arith}
use mathlib.Core.Path.{◌≡◌, sym, ap, ◌∙◌}
use mathlib.Core.Bool.{false}
use lib.ListN.{get_or}
use Rattle.std.specs.Prelude.{Err}
use Rattle.file.specs.Shown.{fault_in}
use Rattle.trace.specs.Shown.{seen_in, known_test}
use Rattle.trace.proofs.Bodies.{four_untold, no_test, unknown}
use Rattle.trace.proofs.read.SeenReader.check.Goals as goal
use Rattle.trace.proofs.read.SeenReader.check.Goals.{in_default-via-in-4+else-self, in_default-via-in_default-1}

pub returns-in_default : goal.returns-in_default
returns-in_default c =
    let v = c.args.self.now in
    let kind = get_or c.args.body.now 0 0 in
    let none : (kind ≡ 1 → ⊥) × (known_test v.bounds kind ≡ false) = elim c.in_default.branch [
      | in_default-via-in-4+else-self w ↦ (λ e. omega (arith, w.in-4.is), four_untold v.bounds kind w.in-4.is w.if-self.false)
      | in_default-via-in_default-1 w ↦
          (λ e. omega arith, no_test v.bounds kind (λ e. omega arith) (λ e. omega arith) (λ e. omega arith))
    ] in
    ap (λ f. fault_in (Err f)) c.into.ensures
    ∙ sym (unknown (v.inputs + 4096) (seen_in v) c.args.body.now c.requires.0 none.0 none.1)
