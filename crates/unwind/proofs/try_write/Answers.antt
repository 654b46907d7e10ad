-- The answer by the way that the code takes to it: each `return` cites the law of that way (`proofs/Answers.antt`).
use Prim.Native.Nat.{ℕ, ◌+◌, ◌*◌, ◌≤◌, ◌<◌}
use native.Mathlib.Omega.{arith}
use mathlib.Core.Path.{◌≡◌, sym, ap, ◌∙◌, subst}
use mathlib.Core.List.{List}
use lib.ListN.{length, take, get_or, length-replicate}
use Rattle.std.specs.Prelude.{◌^◌, Result, Err}
use Rattle.std.specs.Result.{IfErr}
use Rattle.std.proofs.lemmas.Result.{err_from_is_err_and}
use Rattle.file.specs.declared.Refusal.{Refusal}
use Rattle.write.specs.Shown.{written}
use Rattle.expr.specs.Lists.{all-at}
use Rattle.expr.specs.Number.{Byte}
use Rattle.file.specs.File.{head_of, Accepted}
use Rattle.file.specs.Shown.{listed}
use Rattle.file.proofs.FileLaws.{Header}
use Rattle.file.proofs.CutLaws.{cut-long, ready_cut}
use Rattle.file.proofs.ReadingLaws.{refuses}
use Rattle.table.specs.Table.{is_table, read_table}
use Rattle.table.specs.Shown.{Ready}
use Rattle.table.proofs.Answers.{offset-small, table-accepted, right-header, many, is-ready}
use Rattle.unwind.proofs.Writing.{place-little}
use Rattle.unwind.proofs.Answers.{table_refuses, bound_refuses, count_refuses, size_refuses, room_refuses, trace_written}
use Rattle.unwind.proofs.try_write.Goals as goal
use Rattle.unwind.proofs.try_write.Goals.{After-from_residual, In_ok-n}

-- the table is accepted
module _ (c : In_ok-n) where
  abbrev s : List ℕ
  s = c.args.table.now

  whole : Ready s c.read_table.new.offsets c.in_ok-n.n
  whole = is-ready s c.in_ok-n.ensures (omega (arith, length-replicate {A = ℕ} 1024 0))

  -- the offsets that are read
  abbrev stored : List ℕ
  stored = take c.in_ok-n.n c.read_table.new.offsets

  abbrev n : ℕ
  n = c.in_ok-n.n

  accepted : read_table s ≡ Accepted (head_of s) (listed (read_table s))
  accepted = table-accepted s c.in_ok-n.ensures

  head : Header is_table 1024 s
  head = right-header s c.in_ok-n.ensures

  source : record {
    ready : Ready s stored (length stored);
    bytes : (i : ℕ) → get_or s i 0 < 256;
  }
  source = record { ready = ready_cut whole; bytes = λ i. (c.type_inv.table i).fits }

  count-is : length (listed (read_table s)) ≡ n
  count-is = many s c.in_ok-n.ensures ∙ sym whole.count

  few : n ≤ 1024
  few = omega (arith, whole.count, head.count)

  statements : (K : ℕ) → K ≤ 255 → (K + 1) * (n + 1) + 0 ≤ 263424
  statements K l = place-little n 0 (K + 1) few (omega arith) (omega arith)

-- the table is refused: the error that goes on is the reader's
handed : (c : After-from_residual) → c.from_residual.result ≡ Err c.in_err-n.field-0.0.why
handed c =
    let p = err_from_is_err_and c.from_residual.result c.from_residual.ensures.1 in
    p.1 ∙ ap {B = Result ℕ Refusal} Err p.2

pub returns-in_err-n-clause-answer : goal.returns-in_err-n-clause-answer
returns-in_err-n-clause-answer c =
    table_refuses _ _ _ _ _ (refuses c.in_err-n.ensures)
    (ap written (handed (goal.at.returns-in_err-n-clause-answer c).After-from_residual))

pub returns-in_err-n-clause-small : goal.returns-in_err-n-clause-small
returns-in_err-n-clause-small c =
    let s = c.args.table.now in
    let little = offset-small s c.in_err-n.ensures (all-at Byte s (λ i h. (c.type_inv.table i).fits)) in
    subst (λ r. IfErr {T = ℕ} r (λ why. why.offset < 2 ^ 32))
    (sym (handed (goal.at.returns-in_err-n-clause-small c).After-from_residual)) (omega arith)

pub returns-then-bound-gt255-clause-answer : goal.returns-then-bound-gt255-clause-answer
returns-then-bound-gt255-clause-answer c =
    bound_refuses _ _ _ _ _ (accepted (goal.at.returns-then-bound-gt255-clause-answer c).In_ok-n) c.if-bound-gt255.true
    (ap (λ f. written (Err f)) c.into.ensures)

pub slice_bounds-offsets-end : goal.slice_bounds-offsets-end
slice_bounds-offsets-end c = (whole (goal.at.slice_bounds-offsets-end c).In_ok-n).room

pub overflow_add-count-2 : goal.overflow_add-count-2
overflow_add-count-2 c = omega (arith, few (goal.at.overflow_add-count-2 c).In_ok-n)

pub overflow_mul-count : goal.overflow_mul-count
overflow_mul-count c = omega (arith, statements (goal.at.overflow_mul-count c).In_ok-n c.args.bound c.if-bound-gt255.false)

pub overflow_add-count-3 : goal.overflow_add-count-3
overflow_add-count-3 c =
    omega (arith, statements (goal.at.overflow_add-count-3 c).In_ok-n c.args.bound c.if-bound-gt255.false)

pub returns-then-count-gt4096-clause-answer : goal.returns-then-count-gt4096-clause-answer
returns-then-count-gt4096-clause-answer c =
    let place = (goal.at.returns-then-count-gt4096-clause-answer c).In_ok-n in
    count_refuses _ _ _ _ _ (accepted place) c.if-bound-gt255.false _
    (count-is place) c.if-count-gt4096.true (ap (λ f. written (Err f)) c.into-then-count-gt4096.ensures)

pub slice_bounds-source-end : goal.slice_bounds-source-end
slice_bounds-source-end c = sym (cut-long (whole (goal.at.slice_bounds-source-end c).In_ok-n))

pub invariant_of-source : goal.invariant_of-source
invariant_of-source c = source (goal.at.invariant_of-source c).In_ok-n

pub trace_size-total-requires : goal.trace_size-total-requires
trace_size-total-requires c = c.if-bound-gt255.false

pub returns-then-total-gt65535-clause-answer : goal.returns-then-total-gt65535-clause-answer
returns-then-total-gt65535-clause-answer c =
    let place = (goal.at.returns-then-total-gt65535-clause-answer c).In_ok-n in
    size_refuses _ _ _ _ _ (accepted place) c.if-bound-gt255.false _ (count-is place)
    c.if-count-gt4096.false _ c.trace_size-total.ensures c.if-total-gt65535.true
    (ap (λ f. written (Err f)) c.into-then-total-gt65535.ensures)

pub returns-then-out-total-clause-answer : goal.returns-then-out-total-clause-answer
returns-then-out-total-clause-answer c =
    let place = (goal.at.returns-then-out-total-clause-answer c).In_ok-n in
    room_refuses _ _ _ _ _ (accepted place) c.if-bound-gt255.false _ (count-is place)
    c.if-count-gt4096.false _ c.trace_size-total.ensures
    c.if-total-gt65535.false c.if-out-total.true (ap (λ f. written (Err f)) c.into-then-out-total.ensures)

pub write_all-requires : goal.write_all-requires
write_all-requires c = (
  c.if-bound-gt255.false,
  ap (λ n. 1 + (c.args.bound + 1) * (n + 1)) (sym (cut-long (whole (goal.at.write_all-requires c).In_ok-n))),
  c.if-count-gt4096.false,
  c.trace_size-total.ensures,
  c.if-out-total.false,
)

pub returns-clause-answer : goal.returns-clause-answer
returns-clause-answer c =
    let place = (goal.at.returns-clause-answer c).In_ok-n in
    trace_written _ _ _ _ _ (accepted place) c.if-bound-gt255.false _
    (count-is place) c.if-count-gt4096.false _ c.trace_size-total.ensures c.if-total-gt65535.false c.if-out-total.false
    c.write_all.ensures
