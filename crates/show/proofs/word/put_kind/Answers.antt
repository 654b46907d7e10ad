use Rattle.std.proofs.Common.{arith}
use Rattle.show.proofs.word.put_kind.Goals as goal

pub returns-in-Assume : goal.returns-in-Assume
returns-in-Assume c = rw c.in-Assume.is (c.fit_part.ensures, grind arith)

pub returns-in-Assert : goal.returns-in-Assert
returns-in-Assert c = rw c.in-Assert.is (c.fit_part-in-Assert.ensures, grind arith)

pub returns-in-Bound : goal.returns-in-Bound
returns-in-Bound c = rw c.in-Bound.is (c.fit_part-in-Bound.ensures, grind arith)
