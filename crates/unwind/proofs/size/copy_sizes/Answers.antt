use native.Mathlib.Omega.{arith}
use mathlib.Core.Bool.{true, false}
use Rattle.unwind.proofs.Accepted.{bytes, few, small}
use Rattle.unwind.proofs.Sizes.{readable, record-on, copy_summed}
use Rattle.unwind.proofs.size.copy_sizes.Goals as goal

pub instr_sizes-s-requires : goal.instr_sizes-s-requires
instr_sizes-s-requires c = (
  small _ _ _ (bytes c.args.source)
      c.args.source.ready,
  readable _ _ _ (bytes c.args.source)
      c.args.source.ready _ c.loop-i-test.true _ c.from.ensures,
)

pub overflow_add-sum : goal.overflow_add-sum
overflow_add-sum c =
    grind (arith, few _ _ _ (bytes c.args.source) c.args.source.ready)

pub overflow_add-sum-in-loop-i : goal.overflow_add-sum-in-loop-i
overflow_add-sum-in-loop-i c =
    grind (arith, few _ _ _ (bytes c.args.source) c.args.source.ready)

pub loop-i-preserved : goal.loop-i-preserved
loop-i-preserved c =
    let s = c.instr_sizes-s.ensures in
    let on = record-on _ _ _ (bytes c.args.source)
    c.args.source.ready in (
      on false _ _ _ c.loop-i-test.true c.loop-i.invariant.0 _ c.from.ensures s.0
          s.2,
      on true _ _ _ c.loop-i-test.true
          c.loop-i.invariant.1 _ c.from.ensures s.1 s.3,
    )

pub returns : goal.returns
returns c =
    let early = copy_summed _ _ _ (bytes c.args.source) c.args.source.ready c.loop-i.invariant.0
    c.loop-i-test.false in
    let last = copy_summed _ _ _ (bytes c.args.source) c.args.source.ready c.loop-i.invariant.1
    c.loop-i-test.false in
    (early.0, last.0, early.1, last.1)
