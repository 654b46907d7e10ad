use mathlib.Core.Path.{◌≡◌}
use lib.ListN.{length}
use Rattle.slice.proofs.Marks.{inside, in_marked}
use Rattle.std.proofs.Common.{rules}
use Rattle.slice.proofs.sets.Symbols.insert.Goals as goal

pub bounds-self-symbol : goal.bounds-self-symbol
bounds-self-symbol c = inside _ c.requires

pub bounds-self-symbol-2 : goal.bounds-self-symbol-2
bounds-self-symbol-2 c = inside _ c.requires

pub returns : goal.returns
returns c = let long : length c.args.self.now.words ≡ 65 = search rules in in_marked c.args.self.now.words c.args.symbol long c.requires
