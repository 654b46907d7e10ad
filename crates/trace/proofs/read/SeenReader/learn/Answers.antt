use native.Mathlib.Omega.{arith}
use Prim.Native.Nat.{◌+◌, ◌<◌}
use mathlib.Core.Bool.{true}
use lib.ListN.{length-set}
use mathlib.Core.Path.{refl, sym, ◌∙◌}
use Rattle.trace.specs.Shown.{symbol_room, seen_in}
use Rattle.trace.specs.TraceLaws.{symbol-room}
use Rattle.trace.proofs.Held.{Held, held_at, acts-assign}
use Rattle.trace.proofs.Learning.{learns_symbol, learns_nothing}
use Rattle.trace.proofs.read.SeenReader.learn.Goals as goal
use Rattle.trace.proofs.read.SeenReader.learn.Goals.{Start, In-Assign}

held : (c : Start) → Held (c.args.self.now.inputs + 4096) (seen_in c.args.self.now) c.args.trace.now c.args.at
held c = held_at _ _ _ _ c.requires.2

pub stmt_at-requires : goal.stmt_at-requires
stmt_at-requires c = let h = held (goal.at.stmt_at-requires c).Start in (h.whole, h.starts)

below : (c : In-Assign) → c.in-Assign.symbol < symbol_room
below c =
    let assigns = acts-assign (held (goal.at.In-Assign c).Start) c.in-Assign.symbol (sym c.stmt_at.ensures.1 ∙ c.in-Assign.is) in
    grind (arith, assigns.1, symbol-room)

pub bounds-self-symbol : goal.bounds-self-symbol
unfolding symbol_room
bounds-self-symbol c = below (goal.at.bounds-self-symbol c).In-Assign

pub overflow_add-self : goal.overflow_add-self
unfolding symbol_room
overflow_add-self c = omega (arith, below (goal.at.overflow_add-self c).In-Assign)

pub returns-in-Assign : goal.returns-in-Assign
returns-in-Assign c =
    let v = c.args.self.now in
    let ready = c.requires.1 in (
      (ready.0, length-set v.assigned c.in-Assign.symbol true ∙ ready.1),
      refl,
      refl,
      λ x e. learns_symbol v (held (goal.at.returns-in-Assign c).Start) x e ready.0 ready.1 c.in-Assign.symbol
          (sym c.stmt_at.ensures.1 ∙ c.in-Assign.is),
    )

pub returns-in-Test : goal.returns-in-Test
returns-in-Test c = (
  c.requires.1,
  refl,
  refl,
  λ x e. learns_nothing c.args.self.now (held (goal.at.returns-in-Test c).Start) x e c.in-Test.field-0
      (sym c.stmt_at.ensures.1 ∙ c.in-Test.is),
)
