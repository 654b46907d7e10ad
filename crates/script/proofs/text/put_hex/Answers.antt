use Rattle.std.proofs.Common.{◌≡◌, [], ◌∷◌, length, drop, ap, ◌∙◌, drop_of_length-le, arith}
use Rattle.std.proofs.lemmas.List.{drop_more}
use Rattle.write.specs.SpliceLaws.{◌then◌, wrote_as, ahead_step, ahead_end}
use Rattle.script.proofs.Letters.{pairs, constant_pairs}
use Rattle.script.proofs.text.put_hex.Goals as goal

pub loop-b-preserved : goal.loop-b-preserved
loop-b-preserved c =
    let four : length c.to_be_bytes-b-items.result ≡ 4 = ap length c.to_be_bytes-b-items.ensures in
    let next = drop_more c.to_be_bytes-b-items.result c.loop-b.b-index 0 (grind (arith, four)) in
    (ahead_step c.loop-b.invariant.0 (ap pairs next) c.put_pair-to.ensures, grind arith)

pub returns : goal.returns
returns c =
    let bytes = c.to_be_bytes-b-items.result in
    let four : length bytes ≡ 4 = ap length c.to_be_bytes-b-items.ensures in
    let none : drop c.loop-b.b-index bytes ≡ [] = drop_of_length-le bytes (grind (arith, four)) in (
      wrote_as (ap (λ bs. 35 ∷ 120 ∷ pairs bs) c.to_be_bytes-b-items.ensures ∙ constant_pairs c.args.v)
          (c.fit_part-to.ensures then ahead_end c.loop-b.invariant.0 (ap pairs none)),
      grind arith,
    )
