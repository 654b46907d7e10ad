-- What stands in front, the variable, and what stands behind.
use Rattle.std.proofs.Common.{◌++◌, ap₂, ◌∙◌, arith}
use Rattle.write.specs.SpliceLaws.{◌then◌, wrote_as}
use Rattle.script.specs.ScriptText.{slot_name}
use Rattle.script.proofs.Operators.{unary_ahead, unary_behind, unary-text}
use Rattle.script.proofs.operator.put_unary.Goals as goal

pub returns : goal.returns
returns c = (
  wrote_as (ap₂ (λ f b. f ++ slot_name c.args.k ++ b) c.unary_front.ensures c.unary_back.ensures ∙ unary-text c.args.k c.args.o)
      ((c.fit_part-a.ensures then c.put_name-b.ensures.0) then c.fit_part.ensures),
  grind (arith, unary_ahead, unary_behind),
)
