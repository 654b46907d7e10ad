use borrow.Author.Rules.{rules}
use mathlib.Core.Path.{◌≡◌}
use lib.ListN.{length}
use Rattle.expr.specs.declared.File.TheVariants.{Trace}
use mathlib.Core.List.{[], ◌∷◌, ◌++◌}
use Rattle.expr.specs.declared.token.Token.TheVariants.{Const, Symbol, Ite}
use Rattle.expr.specs.Token.{expr_bytes}
use Rattle.trace.specs.Trace.{Assign}
use Rattle.write.specs.SpliceLaws.{◌then◌}
use Rattle.unwind.specs.Unwind.{guarded}
use Rattle.unwind.specs.Size.{expr_size}
use Rattle.unwind.proofs.SizeLaws.{size-rename}
use Rattle.unwind.specs.Shown.{current_of, tokens_in, renamed}
use Rattle.unwind.proofs.Records.{closes, jump-bytes}
use Rattle.unwind.proofs.record.Guarded.put_jump.Goals as goal
use Rattle.unwind.proofs.record.Guarded.put_jump.Goals.{Start}

sized : (c : Start) → length (expr_bytes Trace (renamed c.args.self.names.now c.args.self.expr.now))
    ≡ expr_size (tokens_in c.args.self.names.now c.args.self.expr.now)
sized c = size-rename (current_of c.args.self.names.now) (tokens_in c.args.self.names.now c.args.self.expr.now)

pub put_constant-d-requires : goal.put_constant-d-requires
put_constant-d-requires c =
    search (rules, sized (goal.at.put_constant-d-requires c).Start)

pub put_old-f-requires : goal.put_old-f-requires
put_old-f-requires c =
    search (rules, sized (goal.at.put_old-f-requires c).Start)

pub put_old-g-requires : goal.put_old-g-requires
put_old-g-requires c =
    search (rules, sized (goal.at.put_old-g-requires c).Start)

pub close-requires : goal.close-requires
close-requires c =
    search (rules, sized (goal.at.close-requires c).Start)

pub returns : goal.returns
returns c =
    let a = c.args in
    let g = a.self in
    let e = renamed g.names.now g.expr.now in
    closes (Assign g.place a.new (guarded g.control g.place (e ++ Const a.goal ∷ Symbol g.control ∷ Ite ∷ []) (Symbol g.control)))
    (c.open_assign-a.ensures then c.put_guard-b.ensures then c.put_tokens-c.ensures then c.put_constant-d.ensures then
    c.put_old-f.ensures then c.put_old-g.ensures)
    (jump-bytes g.control g.place e a.new a.goal) c.close.ensures
