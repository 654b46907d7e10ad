use borrow.Author.Rules.{rules}
use mathlib.Core.Path.{◌≡◌}
use lib.ListN.{length}
use Rattle.expr.specs.declared.File.TheVariants.{Trace}
use Rattle.expr.specs.declared.token.Token.TheVariants.{Const}
use Rattle.expr.specs.Token.{expr_bytes}
use Rattle.trace.specs.Trace.{Test}
use Rattle.write.specs.SpliceLaws.{◌then◌}
use Rattle.unwind.specs.Unwind.{guarded}
use Rattle.unwind.specs.Size.{expr_size}
use Rattle.unwind.proofs.SizeLaws.{size-rename}
use Rattle.unwind.specs.Shown.{current_of, tokens_in, renamed}
use Rattle.unwind.proofs.Records.{closes, test-bytes}
use Rattle.unwind.proofs.record.Guarded.put_test.Goals as goal
use Rattle.unwind.proofs.record.Guarded.put_test.Goals.{Start}

sized : (c : Start) → length (expr_bytes Trace (renamed c.args.self.names.now c.args.self.expr.now))
    ≡ expr_size (tokens_in c.args.self.names.now c.args.self.expr.now)
sized c = size-rename (current_of c.args.self.names.now) (tokens_in c.args.self.names.now c.args.self.expr.now)

pub put_holds-d-requires : goal.put_holds-d-requires
put_holds-d-requires c =
    search (rules, sized (goal.at.put_holds-d-requires c).Start)

pub close-requires : goal.close-requires
close-requires c =
    search (rules, sized (goal.at.close-requires c).Start)

pub returns : goal.returns
returns c =
    let a = c.args in
    let g = a.self in
    closes (Test a.kind g.place (guarded g.control g.place (renamed g.names.now g.expr.now) (Const 1)))
    (c.open_test-a.ensures then c.put_guard-b.ensures then c.put_tokens-c.ensures then c.put_holds-d.ensures)
    (test-bytes g.control g.place (renamed g.names.now g.expr.now) a.kind) c.close.ensures
