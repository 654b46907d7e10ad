-- An Assign, a test or a jump: each arm cites the law of its action (`proofs/Writing.antt`).
use Prim.Native.Nat.{◌<◌}
use native.Mathlib.Omega.{arith}
use mathlib.Core.Path.{◌≡◌, sym, refl, ◌∙◌}
use mathlib.Core.Bool.{true}
use lib.ListN.{length}
use Rattle.expr.specs.declared.File.TheVariants.{Table}
use Rattle.expr.specs.Expr.{below, parse}
use Rattle.expr.specs.Shown.{is_whole}
use Rattle.table.proofs.Held.{Held, held_at}
use Rattle.unwind.proofs.Writing.{part-whole, assign-room, assign-written, test-room, test-written, jump-room, jump-written}
use Rattle.unwind.proofs.copy.write_place.Goals as goal
use Rattle.unwind.proofs.copy.write_place.Goals.{After-place, Start, In-Assign}

held : (c : Start) → Held (length c.args.names.now) c.args.copy.n c.args.table.now c.args.at
held c = held_at _ _ _ _ c.requires.2

guard : (c : After-place) → record {
  whole : is_whole (parse Table (below (length c.args.names.now)) c.instr_at-instr.result.expr.now) ≡ true;
  small : c.place.result < 4294967296;
}
guard c = record {
  whole =
      part-whole c.args.names.now (held (goal.at.After-place c).Start) c.args.copy.bound c.args.copy.r c.args.i c.args.f.control
      c.args.f.next _ c.instr_at-instr.ensures.1 _ c.place.ensures.0;
  small = omega (arith, c.place.ensures.1);
}

inside : (c : In-Assign) → c.in-Assign.symbol < length c.args.names.now
inside c =
    let h = held (goal.at.In-Assign c).Start in
    h.symbols c.in-Assign.symbol (sym h.acts ∙ sym c.instr_at-instr.ensures.0 ∙ c.in-Assign.is)

pub instr_at-instr-requires : goal.instr_at-instr-requires
instr_at-instr-requires c = let h = held (goal.at.instr_at-instr-requires c).Start in (h.whole, h.starts)

-- an Assign

pub invariant_of-here : goal.invariant_of-here
invariant_of-here c = guard (goal.at.invariant_of-here c).After-place

pub offset_bounds-here-symbol : goal.offset_bounds-here-symbol
offset_bounds-here-symbol c = omega (arith, inside c)

pub bounds-here-symbol : goal.bounds-here-symbol
bounds-here-symbol c = inside (goal.at.bounds-here-symbol c).In-Assign

pub put_assign-to-requires : goal.put_assign-to-requires
put_assign-to-requires c =
    assign-room c.args.names.now (held (goal.at.put_assign-to-requires c).Start) c.args.copy.bound c.args.copy.r c.args.i c.args.f.control
    c.args.f.next _ c.instr_at-instr.ensures.1 _ c.place.ensures.0 _ (sym c.instr_at-instr.ensures.0 ∙ c.in-Assign.is) _ _ c.requires.3

pub offset_bounds-names-symbol : goal.offset_bounds-names-symbol
offset_bounds-names-symbol c = omega (arith, inside (goal.at.offset_bounds-names-symbol c).In-Assign)

pub bounds-names-symbol : goal.bounds-names-symbol
bounds-names-symbol c = inside (goal.at.bounds-names-symbol c).In-Assign

pub returns-in-Assign : goal.returns-in-Assign
returns-in-Assign c =
    rw c.assigned.ensures
    (assign-written c.args.names.now (held (goal.at.returns-in-Assign c).Start) c.args.copy.bound c.args.copy.r c.args.i c.args.f.control
    c.args.f.next _ c.instr_at-instr.ensures.1 _ c.place.ensures.0 _ (sym c.instr_at-instr.ensures.0 ∙ c.in-Assign.is)
    _ c.from-old.ensures c.put_assign-to.ensures)

-- a test

pub invariant_of-here-in-Test : goal.invariant_of-here-in-Test
invariant_of-here-in-Test c = guard (goal.at.invariant_of-here-in-Test c).After-place

pub put_test-to-requires : goal.put_test-to-requires
put_test-to-requires c =
    test-room c.args.names.now (held (goal.at.put_test-to-requires c).Start) c.args.copy.bound c.args.copy.r c.args.i c.args.f.control
    c.args.f.next _ c.instr_at-instr.ensures.1 _ c.place.ensures.0 _ (sym c.instr_at-instr.ensures.0 ∙ c.in-Test.is) _ _ c.requires.3

pub returns-in-Test : goal.returns-in-Test
returns-in-Test c =
    rw c.tested.ensures
    (test-written c.args.names.now (held (goal.at.returns-in-Test c).Start) c.args.copy.bound c.args.copy.r c.args.i c.args.f.control
    c.args.f.next _ c.instr_at-instr.ensures.1 _ c.place.ensures.0 _ (sym c.instr_at-instr.ensures.0 ∙ c.in-Test.is)
    c.put_test-to.ensures)

-- a jump

pub invariant_of-here-in-Goto : goal.invariant_of-here-in-Goto
invariant_of-here-in-Goto c = guard (goal.at.invariant_of-here-in-Goto c).After-place

pub write_jump-requires : goal.write_jump-requires
write_jump-requires c =
    let h = held (goal.at.write_jump-requires c).Start in
    let acts = sym c.instr_at-instr.ensures.0 ∙ c.in-Goto.is in (
      refl,
      h.targets c.in-Goto.target (sym h.acts ∙ acts),
      c.requires.1,
      jump-room c.args.names.now h c.args.copy.bound c.args.copy.r c.args.i c.args.f.control c.args.f.next _ c.instr_at-instr.ensures.1
          _ c.place.ensures.0 _ acts _ _ c.requires.3,
    )

pub returns-in-Goto : goal.returns-in-Goto
returns-in-Goto c =
    jump-written c.args.names.now (held (goal.at.returns-in-Goto c).Start) c.args.copy.bound c.args.copy.r c.args.i c.args.f.control
    c.args.f.next _ c.instr_at-instr.ensures.1 _ c.place.ensures.0 _ (sym c.instr_at-instr.ensures.0 ∙ c.in-Goto.is)
    c.write_jump.ensures
