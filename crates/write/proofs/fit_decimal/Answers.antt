-- A single digit is a byte.
use Rattle.std.proofs.Common.{arith, sym}
use Rattle.write.specs.SpliceLaws.{wrote_as}
use Rattle.write.specs.DecimalLaws.{digit_is}
use Rattle.write.proofs.fit_decimal.Goals as goal

pub returns-then-v-lt10 : goal.returns-then-v-lt10
returns-then-v-lt10 c = (wrote_as (sym (digit_is _ c.if-v-lt10.true)) c.fit_byte.ensures, grind arith)
