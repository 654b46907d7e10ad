use borrow.Author.Rules.{rules}
use Prim.Native.Nat.{ℕ}
use mathlib.Core.Path.{◌≡◌, ap}
use lib.ListN.{length}
use Rattle.expr.specs.declared.File.TheVariants.{Trace}
use mathlib.Core.List.{List, [], ◌∷◌, ◌++◌}
use Rattle.expr.specs.declared.word.Unary.TheVariants.{Zero}
use Rattle.expr.specs.declared.token.Token.TheVariants.{Const, Un}
use Rattle.expr.specs.Token.{expr_bytes}
use Rattle.expr.specs.Eval.{rename}
use Rattle.file.specs.Outcome.{Bound}
use Rattle.trace.specs.Trace.{Test}
use Rattle.write.specs.SpliceLaws.{◌then◌, wrote_as}
use Rattle.unwind.specs.Unwind.{guarded}
use Rattle.unwind.specs.Size.{expr_size}
use Rattle.unwind.proofs.SizeLaws.{size-rename}
use Rattle.unwind.specs.Shown.{current_of, tokens_in, renamed}
use Rattle.unwind.proofs.Records.{closes, bound-bytes}
use Rattle.unwind.proofs.record.Guarded.put_bound.Goals as goal
use Rattle.unwind.proofs.record.Guarded.put_bound.Goals.{Start}

sized : (c : Start) → length (expr_bytes Trace (renamed c.args.self.names.now c.args.self.expr.now))
    ≡ expr_size (tokens_in c.args.self.names.now c.args.self.expr.now)
sized c = size-rename (current_of c.args.self.names.now) (tokens_in c.args.self.names.now c.args.self.expr.now)

pub put_byte-d-requires : goal.put_byte-d-requires
put_byte-d-requires c =
    search (rules, sized (goal.at.put_byte-d-requires c).Start)

pub put_holds-f-requires : goal.put_holds-f-requires
put_holds-f-requires c =
    search (rules, sized (goal.at.put_holds-f-requires c).Start)

pub close-requires : goal.close-requires
close-requires c =
    search (rules, sized (goal.at.close-requires c).Start)

pub returns : goal.returns
returns c =
    let a = c.args in
    let g = a.self in
    closes (Test Bound g.place (guarded g.control g.place
    (rename (current_of g.names.now) (tokens_in g.names.now g.expr.now ++ Un Zero ∷ [])) (Const 1)))
    (c.open_test-a.ensures then c.put_guard-b.ensures then c.put_tokens-c.ensures
    then wrote_as (ap {B = List ℕ} (λ b. b ∷ []) c.code.ensures) c.put_byte-d.ensures then c.put_holds-f.ensures)
    (bound-bytes g.control g.place (tokens_in g.names.now g.expr.now) (current_of g.names.now)) c.close.ensures
