-- Forward, back into the next copy, or the bound's test in the last: each `return` cites the law of its way (`proofs/Writing.antt`).
use native.Mathlib.Omega.{arith}
use mathlib.Core.List.{List}
use Rattle.expr.specs.declared.token.Token.{Token}
use Rattle.unwind.specs.Shown.{tokens_in}
use Rattle.unwind.proofs.Writing.{forward-room, forward-written, back-room, back-written, bound-room, bound-written}
use Rattle.unwind.proofs.copy.write_jump.Goals as goal
use Rattle.unwind.proofs.copy.write_jump.Goals.{Start}

abbrev tokens : (c : Start) → List Token
tokens c = tokens_in c.args.here.names.now c.args.here.expr.now

-- forward

pub put_jump-to-requires : goal.put_jump-to-requires
put_jump-to-requires c = (
  forward-room _ c.args.copy.bound c.args.copy.r c.args.i c.args.here.place c.args.t c.args.here.control c.args.f.next
      c.args.here.names.now (tokens (goal.at.put_jump-to-requires c).Start) c.if-i-t.true _ _ c.requires.3,
  omega (arith, c.place-goal.ensures.1),
)

pub returns-then-i-t : goal.returns-then-i-t
returns-then-i-t c =
    rw c.moved.ensures
    (forward-written _ c.args.copy.bound c.args.copy.r c.args.i c.args.here.place c.args.t c.args.here.control c.args.f.next
    c.args.here.names.now (tokens (goal.at.returns-then-i-t c).Start) c.if-i-t.true _ c.place-goal.ensures.0 c.put_jump-to.ensures)

-- back, into the next copy

pub put_jump-to-requires-then-copy : goal.put_jump-to-requires-then-copy
put_jump-to-requires-then-copy c = (
  back-room _ c.args.copy.bound c.args.copy.r c.args.i c.args.here.place c.args.t c.args.here.control c.args.f.next
      c.args.here.names.now (tokens (goal.at.put_jump-to-requires-then-copy c).Start) c.if-i-t.false c.if-copy.true _ _ c.requires.3,
  omega (arith, c.next_place-goal.ensures.1),
)

pub returns-then-copy : goal.returns-then-copy
returns-then-copy c =
    rw c.moved-then-copy.ensures
    (back-written _ c.args.copy.bound c.args.copy.r c.args.i c.args.here.place c.args.t c.args.here.control c.args.f.next
    c.args.here.names.now (tokens (goal.at.returns-then-copy c).Start) c.if-i-t.false c.if-copy.true _ c.next_place-goal.ensures.0
    c.put_jump-to-then-copy.ensures)

-- back, in the last copy

pub put_bound-to-requires : goal.put_bound-to-requires
put_bound-to-requires c =
    bound-room c.args.copy.n c.args.copy.bound c.args.copy.r c.args.i c.args.here.place c.args.t c.args.here.control c.args.f.next
    c.args.here.names.now (tokens (goal.at.put_bound-to-requires c).Start) c.if-i-t.false c.if-copy.false _ _ c.requires.3

pub returns : goal.returns
returns c =
    rw c.tested.ensures
    (bound-written c.args.copy.n c.args.copy.bound c.args.copy.r c.args.i c.args.here.place c.args.t c.args.here.control c.args.f.next
    c.args.here.names.now (tokens (goal.at.returns c).Start) c.if-i-t.false c.if-copy.false _ c.requires.0 c.put_bound-to.ensures)
