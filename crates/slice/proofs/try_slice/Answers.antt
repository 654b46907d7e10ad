-- The answer by the way that the code takes to it: each `return` cites the law of that way (`proofs/Answers.antt`).
use Prim.Native.Nat.{ℕ, ◌≤◌, ◌<◌}
use native.Mathlib.Omega.{arith}
use mathlib.Core.Path.{◌≡◌, sym, ap, ◌∙◌, subst}
use Rattle.std.specs.Prelude.{◌^◌, Result, Err}
use Rattle.std.specs.Result.{IfErr}
use Rattle.std.proofs.lemmas.Result.{err_from_is_err_and}
use Rattle.file.specs.declared.Refusal.{Refusal}
use Rattle.slice.specs.declared.Answer.{Answer}
use Rattle.slice.specs.Shown.{answer_in}
use mathlib.Core.Bool.{false}
use mathlib.Core.List.{List}
use lib.ListN.{length-replicate}
use Rattle.expr.specs.Lists.{All, all-at}
use Rattle.expr.specs.Number.{Byte}
use Rattle.file.specs.File.{input_room, header_version, header_size, header_inputs, head_of, Accepted}
use Rattle.file.specs.Shown.{listed}
use Rattle.file.proofs.FileLaws.{inputs-room, Header, same_everywhere}
use Rattle.file.proofs.ReadingLaws.{total-small, refuses}
use Rattle.trace.specs.Trace.{is_trace, read_trace}
use Rattle.trace.specs.Shown.{Ready}
use Rattle.trace.proofs.Answers.{offset-small, trace_accepted, right-header, is-ready}
use Rattle.slice.proofs.Answers.{trace_refuses, size_small, no_room, records-room, slice_written}
use Rattle.file.proofs.CutLaws.{cut-long, ready_cut}
use Rattle.slice.proofs.try_slice.Goals as goal
use Rattle.slice.proofs.try_slice.Goals.{After-header_size, After-shared_slice_known-1, After-walk_back-k, After-from_residual}
use Rattle.slice.proofs.try_slice.Goals.{Else-out-total, In_ok-n}

bytes : (c : After-shared_slice_known-1) → All Byte c.args.trace.now
bytes c = all-at Byte c.args.trace.now (λ i h. (c.shared_slice_known-1.given i).fits)

-- the trace is accepted
module _ (c : In_ok-n) where
  abbrev s : List ℕ
  s = c.args.trace.now

  abbrev out : List ℕ
  out = c.args.out.now

  accepted : read_trace s ≡ Accepted (head_of s) (listed (read_trace s))
  accepted = trace_accepted c.in_ok-n.ensures

  head : Header is_trace 4096 s
  head = right-header c.in_ok-n.ensures

  ready : Ready s c.read_trace.new.offsets c.in_ok-n.n
  ready = is-ready c.in_ok-n.ensures (omega (arith, length-replicate {A = ℕ} 4096 0))

  offsets-fit : header_size s < 65536
  offsets-fit = omega (arith, head.long, head.total, total-small s (bytes (goal.at.In_ok-n c).After-shared_slice_known-1))

  few : c.in_ok-n.n ≤ 4096
  few = omega (arith, ready.count, head.count)

-- and its slice is found
small : (c : After-walk_back-k) → c.walk_back-k.result.size < 65536
small c =
    size_small _ (accepted (goal.at.After-walk_back-k c).In_ok-n) _ _ _ c.walk_back-k.ensures
    (bytes (goal.at.After-walk_back-k c).After-shared_slice_known-1)

-- the trace is refused: the error that goes on is the reader's
handed : (c : After-from_residual) → c.from_residual.result ≡ Err c.in_err-n.field-0.0.why
handed c =
    let p = err_from_is_err_and c.from_residual.result c.from_residual.ensures.1 in
    p.1 ∙ ap {B = Result Answer Refusal} Err p.2

pub returns-in_err-n-clause-answer : goal.returns-in_err-n-clause-answer
returns-in_err-n-clause-answer c =
    let place = (goal.at.returns-in_err-n-clause-answer c).After-from_residual in
    trace_refuses _ _ _ _ (refuses c.in_err-n.ensures) _ (ap answer_in (handed place))

pub returns-in_err-n-clause-small : goal.returns-in_err-n-clause-small
returns-in_err-n-clause-small c =
    let place = (goal.at.returns-in_err-n-clause-small c).After-from_residual in
    let little = offset-small c.in_err-n.ensures (all-at Byte c.args.trace.now (λ i h. (c.type_inv.trace i).fits)) in
    subst (λ r. IfErr {T = Answer} r (λ why. why.offset < 2 ^ 32)) (sym (handed place)) (omega arith)

pub slice_bounds-offsets-end : goal.slice_bounds-offsets-end
slice_bounds-offsets-end c = (ready (goal.at.slice_bounds-offsets-end c).In_ok-n).room

pub slice_bounds-stored-end : goal.slice_bounds-stored-end
slice_bounds-stored-end c = sym (cut-long (ready (goal.at.slice_bounds-stored-end c).In_ok-n))

pub walk_back-k-requires : goal.walk_back-k-requires
walk_back-k-requires c =
    let place = (goal.at.walk_back-k-requires c).In_ok-n in (
      ready_cut (ready place),
      omega (arith, cut-long (ready place), few place),
      c.new-needed.ensures,
      same_everywhere 4096 false,
    )

pub overflow_add-total : goal.overflow_add-total
overflow_add-total c =
    let place = (goal.at.overflow_add-total c).In_ok-n in
    grind (arith, small (goal.at.overflow_add-total c).After-walk_back-k, (head place).total, (head place).long, offsets-fit place)

pub returns-then-out-total-clause-answer : goal.returns-then-out-total-clause-answer
returns-then-out-total-clause-answer c =
    let place = (goal.at.returns-then-out-total-clause-answer c).In_ok-n in
    no_room (s place) (accepted place) _ _ _ c.walk_back-k.ensures
    c.header_size.ensures (out place)
    c.if-out-total.true _ (ap (λ f. answer_in (Err f)) c.into.ensures)

-- and fits the buffer
module _ (c : Else-out-total) where
  abbrev a : In_ok-n
  a = (goal.at.Else-out-total c).In_ok-n

  abbrev walked : After-walk_back-k
  walked = (goal.at.Else-out-total c).After-walk_back-k

  abbrev front : After-header_size
  front = (goal.at.Else-out-total c).After-header_size

pub put_header_of-to-requires : goal.put_header_of-to-requires
put_header_of-to-requires c =
    let place = (goal.at.put_header_of-to-requires c).Else-out-total in
    ((head (a place)).long, grind (arith, (front place).header_size.ensures), (head (a place)).inputs)

pub copy_kept-requires : goal.copy_kept-requires
copy_kept-requires c =
    let place = (goal.at.copy_kept-requires c).Else-out-total in
    let put = c.put_header_of-to.ensures in (
      ready_cut (ready (a place)),
      omega (arith, cut-long (ready (a place)), few (a place), (walked place).walk_back-k.auto.kept),
      records-room (s (a place)) (accepted (a place)) _ _ _ (walked place).walk_back-k.ensures (front place).header_size.ensures
          (out (a place))
          c.if-out-total.false put.0 put.1,
    )

pub inputs_of-requires : goal.inputs_of-requires
inputs_of-requires c = (head (a (goal.at.inputs_of-requires c).Else-out-total)).long

pub mask_of-mask-requires : goal.mask_of-mask-requires
unfolding input_room
mask_of-mask-requires c =
    let place = (goal.at.mask_of-mask-requires c).Else-out-total in
    let few : header_inputs (s (a place)) ≤ input_room = omega
    (arith, (head (a place)).inputs, inputs-room (header_version (s (a place)))) in
    grind (arith, few)

pub overflow_cast-result : goal.overflow_cast-result
overflow_cast-result c =
    let place = (goal.at.overflow_cast-result c).Else-out-total in
    omega (arith, small (walked place), (front place).header_size.ensures, offsets-fit (a place))

pub returns-clause-answer : goal.returns-clause-answer
returns-clause-answer c =
    let place = (goal.at.returns-clause-answer c).Else-out-total in
    let put = c.put_header_of-to.ensures in
    slice_written (s (a place)) (accepted (a place)) _ _ _ (walked place).walk_back-k.ensures (front place).header_size.ensures
    (out (a place)) c.if-out-total.false
    put.0 put.1 c.copy_kept.ensures c.inputs_of.ensures _
    c.mask_of-mask.ensures
