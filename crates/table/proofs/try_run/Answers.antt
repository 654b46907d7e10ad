-- The answer by the way that the code takes to it: each `return` cites the law of that way (`proofs/Answers.antt`).
use Prim.Native.Nat.{ℕ, ◌≤◌, ◌<◌}
use native.Mathlib.Omega.{arith}
use mathlib.Core.Path.{◌≡◌, sym, ap, ◌∙◌, subst}
use mathlib.Core.List.{List}
use lib.ListN.{length, replicate, length-replicate}
use lib.Seq.{length-sets}
use Rattle.std.specs.Prelude.{◌^◌, Result, Err}
use Rattle.std.specs.Result.{IfErr}
use Rattle.std.proofs.lemmas.Result.{err_from_is_err_and}
use Rattle.expr.specs.Lists.{all-at}
use Rattle.expr.specs.Number.{Byte}
use Rattle.expr.specs.Eval.{env_of}
use Rattle.file.specs.File.{input_room, header_version, header_inputs, head_of, Accepted}
use Rattle.file.specs.Shown.{listed}
use Rattle.file.specs.declared.Refusal.{Refusal}
use Rattle.file.proofs.FileLaws.{inputs-room, Header, copy_env}
use Rattle.file.proofs.CutLaws.{cut-long, ready_cut}
use Rattle.file.proofs.ReadingLaws.{refuses}
use Rattle.table.specs.declared.steps.Ran.{Ran}
use Rattle.table.specs.Table.{is_table, read_table}
use Rattle.table.specs.Answer.{answer_of}
use Rattle.table.specs.Shown.{answer_in, Ready}
use Rattle.table.proofs.Answers.{offset-small, table-accepted, right-header, many, is-ready, table_refuses, bound-refused}
use Rattle.table.proofs.Answers.{valuation_refused, ran}
use Rattle.table.proofs.try_run.Goals as goal
use Rattle.table.proofs.try_run.Goals.{After-from_residual, In_ok-n}

-- the table is refused: the error that goes on is the reader's
handed : (c : After-from_residual) → c.from_residual.result ≡ Err c.in_err-n.field-0.0.why
handed c =
    let p = err_from_is_err_and c.from_residual.result c.from_residual.ensures.1 in
    p.1 ∙ ap {B = Result Ran Refusal} Err p.2

pub returns-in_err-n-clause-answer : goal.returns-in_err-n-clause-answer
returns-in_err-n-clause-answer c =
    ap answer_in (handed (goal.at.returns-in_err-n-clause-answer c).After-from_residual)
    ∙ table_refuses _ _ _ _ _ (refuses c.in_err-n.ensures)

pub returns-in_err-n-clause-small : goal.returns-in_err-n-clause-small
returns-in_err-n-clause-small c =
    let s = c.args.table.now in
    let small = offset-small s c.in_err-n.ensures (all-at Byte s (λ i h. (c.type_inv.table i).fits)) in
    subst (λ r. IfErr {T = Ran} r (λ why. why.offset < 2 ^ 32)) (sym (handed (goal.at.returns-in_err-n-clause-small c).After-from_residual))
    (omega arith)

-- the table is accepted
module _ (c : In_ok-n) where
  abbrev s : List ℕ
  s = c.args.table.now

  accepted : read_table s ≡ Accepted (head_of s) (listed (read_table s))
  accepted = table-accepted s c.in_ok-n.ensures

  head : Header is_table 1024 s
  head = right-header s c.in_ok-n.ensures

  few-inputs : header_inputs s ≤ input_room
  few-inputs = omega (arith, head.inputs, inputs-room (header_version s))

  ready : Ready s c.read_table.new.offsets c.in_ok-n.n
  ready = is-ready s c.in_ok-n.ensures (omega (arith, length-replicate {A = ℕ} 1024 0))

  count-is : c.in_ok-n.n ≡ length (listed (read_table s))
  count-is = ready.count ∙ sym (many s c.in_ok-n.ensures)

pub returns-then-bound-gt255-clause-answer : goal.returns-then-bound-gt255-clause-answer
returns-then-bound-gt255-clause-answer c =
    ap (λ f. answer_in (Err f)) c.into.ensures
    ∙ bound-refused _ _ _ _ _ (accepted (goal.at.returns-then-bound-gt255-clause-answer c).In_ok-n) c.if-bound-gt255.true

pub inputs_of-requires : goal.inputs_of-requires
inputs_of-requires c = (head (goal.at.inputs_of-requires c).In_ok-n).long

pub returns-then-words-inputs_of-clause-answer : goal.returns-then-words-inputs_of-clause-answer
returns-then-words-inputs_of-clause-answer c =
    ap (λ f. answer_in (Err f)) c.into-then-words-inputs_of.ensures
    ∙ valuation_refused _ _ _ _ _ (accepted (goal.at.returns-then-words-inputs_of-clause-answer c).In_ok-n)
    c.if-bound-gt255.false (λ e. c.if-words-inputs_of.true (e ∙ sym c.inputs_of.ensures))

pub copy_words-requires : goal.copy_words-requires
unfolding input_room
copy_words-requires c =
    grind (arith, few-inputs (goal.at.copy_words-requires c).In_ok-n)

pub slice_bounds-offsets-end : goal.slice_bounds-offsets-end
slice_bounds-offsets-end c = (ready (goal.at.slice_bounds-offsets-end c).In_ok-n).room

pub slice_bounds-run_from-end : goal.slice_bounds-run_from-end
slice_bounds-run_from-end c =
    sym (cut-long (ready (goal.at.slice_bounds-run_from-end c).In_ok-n))

pub run_from-requires : goal.run_from-requires
unfolding input_room
run_from-requires c =
    let place = (goal.at.run_from-requires c).In_ok-n in
    let words = c.args.words.now in (
      c.if-bound-gt255.false,
      ready_cut (ready place),
      omega (
        arith,
        few-inputs place,
        ap length c.copy_words.ensures,
        length-sets (replicate input_room 0) 0 words,
        length-replicate {A = ℕ} input_room 0,
      ),
    )

pub returns-clause-answer : goal.returns-clause-answer
unfolding input_room
returns-clause-answer c =
    let place = (goal.at.returns-clause-answer c).In_ok-n in
    let words = c.args.words.now in
    let right : length words ≡ header_inputs (s place) = c.if-words-inputs_of.false ∙ c.inputs_of.ensures in
    ap answer_of c.run_from.ensures
    ∙ ran _ _ _ _ _ (accepted place) c.if-bound-gt255.false right _
    (cut-long (ready place) ∙ count-is place)
    c.copy_words.new.cells
    (ap env_of c.copy_words.ensures ∙ copy_env input_room words (omega (arith, right, few-inputs place)))
