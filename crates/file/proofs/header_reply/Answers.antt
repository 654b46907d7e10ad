use Prim.Native.Nat.{◌≤◌}
use mathlib.Core.Path.{◌≡◌, sym, ◌∙◌}
use mathlib.Core.Bool.{true}
use lib.ListN.{length}
use borrow.Author.Tests.{lt-leb, le-leb, eq-eqb, ne_eqb}
use Rattle.file.specs.File.{header_size, header_total, header_reply}
use Rattle.file.proofs.header_reply.Goals as goal
use Rattle.file.proofs.header_reply.Goals.{Else-total_of-s}

pub returns-then-s-header_size : goal.returns-then-s-header_size
unfolding header_reply
returns-then-s-header_size c = simp (lt-leb _ _ (rw c.header_size.ensures at c.if-s-header_size.true))

pub returns-then-not-known : goal.returns-then-not-known
unfolding header_reply
returns-then-not-known c = simp (
  le-leb _ _ (rw c.header_size.ensures at c.if-s-header_size.false),
  c.if-not-known.true,
)

pub returns-then-total_of-s : goal.returns-then-total_of-s
unfolding header_reply
returns-then-total_of-s c = simp (
  le-leb _ _ (rw c.header_size.ensures at c.if-s-header_size.false),
  c.if-not-known.false,
  ne_eqb _ _ (rw c.total_of.ensures at c.if-total_of-s.true),
)

-- the first three tests are passed
module _ (c : Else-total_of-s) where
  long : header_size c.args.s.now
      ≤ length c.args.s.now
  long = rw c.header_size.ensures at c.if-s-header_size.false

  known : c.args.known ≡ true
  known = c.if-not-known.false

  total : header_total c.args.s.now
      ≡ length c.args.s.now
  total = sym c.total_of.ensures ∙ c.if-total_of-s.false

pub returns-then-inputs_limit-inputs_of : goal.returns-then-inputs_limit-inputs_of
unfolding header_reply
returns-then-inputs_limit-inputs_of c =
    let place = (goal.at.returns-then-inputs_limit-inputs_of c).Else-total_of-s in simp (
      le-leb _ _ (long place),
      known place,
      eq-eqb _ _ (total place),
      lt-leb _ _ (rw (c.inputs_of.ensures, c.inputs_limit.ensures) at c.if-inputs_limit-inputs_of.true),
    )

pub returns-then-limit-count_of : goal.returns-then-limit-count_of
unfolding header_reply
returns-then-limit-count_of c =
    let place = (goal.at.returns-then-limit-count_of c).Else-total_of-s in simp (
      le-leb _ _ (long place),
      known place,
      eq-eqb _ _ (total place),
      le-leb _ _ (rw (c.inputs_of.ensures, c.inputs_limit.ensures)
          at c.if-inputs_limit-inputs_of.false),
      lt-leb _ _ (rw c.count_of.ensures at c.if-limit-count_of.true),
    )

pub returns : goal.returns
unfolding header_reply
returns c =
    let place = (goal.at.returns c).Else-total_of-s in simp (
      le-leb _ _ (long place),
      known place,
      eq-eqb _ _ (total place),
      le-leb _ _ (rw (c.inputs_of.ensures, c.inputs_limit.ensures)
          at c.if-inputs_limit-inputs_of.false),
      le-leb _ _ (rw c.count_of.ensures at c.if-limit-count_of.false),
    )
