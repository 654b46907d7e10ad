-- The variable is the place of the word that the token pushes.
use Rattle.std.proofs.Common.{◌-◌, ap, arith}
use Rattle.write.specs.SpliceLaws.{◌then◌, wrote_as}
use Rattle.script.specs.Script.{token_term}
use Rattle.script.specs.ScriptText.{term_text}
use Rattle.script.specs.Shown.{binding_of}
use Rattle.script.proofs.term.put_token.Goals as goal

pub returns : goal.returns
returns c = (
  wrote_as (ap (λ p. binding_of (c.args.d - p) (term_text (token_term (c.args.d - p) c.args.t))) c.pops.ensures)
      ((((c.fit_part-a.ensures then c.put_name-b.ensures.0) then c.fit_byte-c.ensures) then c.put_word-f.ensures.0)
      then c.fit_part.ensures),
  grind arith,
)
