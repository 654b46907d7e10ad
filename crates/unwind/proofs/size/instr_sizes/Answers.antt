use mathlib.Core.Path.{sym, ◌∙◌}
use Rattle.table.proofs.Held.{Held, held_at}
use Rattle.unwind.proofs.Sizes.{Measured, measurable, measured, no_jump, jumps-on, jumps-back}
use Rattle.file.specs.File.{input_room}
use Rattle.unwind.proofs.size.instr_sizes.Goals as goal
use Rattle.unwind.proofs.size.instr_sizes.Goals.{After-expr_size-size, Start}

held : (c : Start) → Held input_room c.args.n c.args.table.now c.args.at
held c = held_at input_room c.args.n c.args.table.now c.args.at c.requires.1

size_is : (c : After-expr_size-size) → Measured (held (goal.at.After-expr_size-size c).Start) c.expr_size-size.result
size_is c =
    measured (held (goal.at.After-expr_size-size c).Start) c.requires.0 c.instr_at-instr.ensures.1 _
    c.expr_size-size.ensures.0 c.expr_size-size.ensures.1

pub instr_at-instr-requires : goal.instr_at-instr-requires
instr_at-instr-requires c = let h = held (goal.at.instr_at-instr-requires c).Start in (h.whole, h.starts)

pub expr_size-size-requires : goal.expr_size-size-requires
expr_size-size-requires c = measurable (held (goal.at.expr_size-size-requires c).Start) c.requires.0 c.instr_at-instr.ensures.1

pub returns-in-Goto : goal.returns-in-Goto
returns-in-Goto c =
    jumps-back (held (goal.at.returns-in-Goto c).Start) (size_is (goal.at.returns-in-Goto c).After-expr_size-size) c.args.i
    c.in-Goto.target (sym c.instr_at-instr.ensures.0 ∙ c.in-Goto.is) c.if-target-i.true

pub returns-in-Goto-2 : goal.returns-in-Goto-2
returns-in-Goto-2 c =
    jumps-on (held (goal.at.returns-in-Goto-2 c).Start) (size_is (goal.at.returns-in-Goto-2 c).After-expr_size-size) c.args.i
    c.in-Goto.target (sym c.instr_at-instr.ensures.0 ∙ c.in-Goto.is) c.if-target-i.false

pub returns-in-Assign : goal.returns-in-Assign
returns-in-Assign c =
    no_jump (held (goal.at.returns-in-Assign c).Start) (size_is (goal.at.returns-in-Assign c).After-expr_size-size) c.args.i
    c.instr_at-instr.ensures.0 c.in-Assign.is
