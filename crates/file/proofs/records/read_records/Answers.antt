use native.Mathlib.Omega.{arith}
use mathlib.Core.Path.{refl, sym, ap, ◌∙◌}
use Rattle.file.specs.File.{AtRecord}
use Rattle.file.specs.Shown.{is_good}
use Rattle.file.proofs.FileLaws.{frame_none, record_unframed}
use Rattle.file.proofs.WalkLaws.{start, refuse, done, spare}
use Rattle.file.proofs.Turns.{inside, refused, there, goes_on}
use Rattle.file.proofs.records.read_records.Goals as goal

pub loop-k-init : goal.loop-k-init
loop-k-init g c = (start _ _ _ _ _ _ c.header_size-at.ensures c.requires.0, c.requires.3, refl, refl)

pub returns-in_default : goal.returns-in_default
returns-in_default g c =
    let v = c.loop-k.invariant.0 in
    refuse _ _ _ _ _ _ v c.loop-k-test.true (AtRecord 5)
    (record_unframed _ _ (frame_none _ c.in_default.ensures)) refl refl (omega arith) v.inside c.no_record.ensures

pub overflow_add-len : goal.overflow_add-len
overflow_add-len g c =
    omega (arith, inside c.loop-k.invariant.0 c.loop-k-test.true (sym c.in-Some.is ∙ c.frame_at.ensures))

pub overflow_add-at-in-loop-k : goal.overflow_add-at-in-loop-k
overflow_add-at-in-loop-k g c =
    omega (arith, inside c.loop-k.invariant.0 c.loop-k-test.true (sym c.in-Some.is ∙ c.frame_at.ensures))

pub slice_bounds-check-end : goal.slice_bounds-check-end
slice_bounds-check-end g c =
    omega (arith, inside c.loop-k.invariant.0 c.loop-k-test.true (sym c.in-Some.is ∙ c.frame_at.ensures))

pub returns-in-Err : goal.returns-in-Err
returns-in-Err g c =
    let v = c.loop-k.invariant in
    refused v.0 c.loop-k-test.true (sym c.in-Some.is ∙ c.frame_at.ensures) _ v.2 c.in-Err.refusal c.in-Err.ensures c.after.ensures

pub learn-requires : goal.learn-requires
learn-requires g c =
    let v = c.loop-k.invariant in (
      grind (arith, v.0.inside),
      v.1,
      ap is_good (there v.0 c.loop-k-test.true (sym c.in-Some.is ∙ c.frame_at.ensures) _ v.2 (g.met.R.Reader.low _ _ _)
          c.in_default-check.ensures).1,
    )

pub loop-k-preserved : goal.loop-k-preserved
loop-k-preserved g c =
    let v = c.loop-k.invariant in
    let f = sym c.in-Some.is ∙ c.frame_at.ensures in
    let x = there v.0 c.loop-k-test.true f _ v.2 (g.met.R.Reader.low _ _ _) c.in_default-check.ensures in
    let learnt = c.learn.ensures in (
      goes_on v.0 c.loop-k-test.true f _ v.2 x.0 x.1 _ v.3 (learnt.3 x.0 x.1),
      learnt.0,
      learnt.1 ∙ v.2,
      learnt.2 ∙ v.3,
    )

pub returns-then-at-s : goal.returns-then-at-s
returns-then-at-s g c = spare _ _ _ _ _ _ c.loop-k.invariant.0 (omega arith) c.if-at-s.true c.no_record-then-at-s.ensures

pub returns : goal.returns
returns g c = done _ _ _ _ _ _ c.loop-k.invariant.0 (omega arith) c.if-at-s.false
