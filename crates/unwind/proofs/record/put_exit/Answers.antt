use Rattle.write.specs.SpliceLaws.{◌then◌}
use mathlib.Core.Path.{refl}
use Rattle.unwind.proofs.Records.{closes}
use mathlib.Core.List.{[], ◌∷◌}
use Rattle.expr.specs.declared.token.Token.TheVariants.{Const, Symbol}
use Rattle.trace.specs.Trace.{Assign}
use Rattle.unwind.specs.Unwind.{guarded}
use Rattle.unwind.proofs.record.put_exit.Goals as goal

pub returns : goal.returns
returns c =
    let args = c.args in
    let a = args in
    closes (Assign a.j a.new (guarded a.w a.j (Const a.goal ∷ []) (Symbol a.w)))
    (c.open_assign-a.ensures then c.put_guard-b.ensures then c.put_constant-c.ensures then c.put_old-d.ensures) refl c.close.ensures
