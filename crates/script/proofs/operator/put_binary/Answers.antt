-- What stands in front, the variables, and what stands behind.
use Rattle.std.proofs.Common.{◌+◌, ◌++◌, ap₂, ◌∙◌, arith}
use Rattle.write.specs.SpliceLaws.{◌then◌, wrote_as}
use Rattle.write.specs.Ascii.{ascii}
use Rattle.script.specs.ScriptText.{slot_name}
use Rattle.script.proofs.Operators.{binary_ahead, binary_behind, binary-text}
use Rattle.script.proofs.operator.put_binary.Goals as goal

pub returns : goal.returns
returns c = (
  wrote_as (ap₂ (λ f b. f ++ slot_name c.args.k ++ ascii " " ++ slot_name (c.args.k + 1) ++ b) c.binary_front.ensures
      c.binary_back.ensures ∙ binary-text c.args.k c.args.o)
      ((((c.fit_part-a.ensures then c.put_name-b.ensures.0) then c.fit_byte-c.ensures) then c.put_name-d.ensures.0) then
      c.fit_part.ensures),
  grind (arith, binary_ahead, binary_behind),
)
