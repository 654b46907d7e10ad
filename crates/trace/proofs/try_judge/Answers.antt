-- The answer by the way that the code takes to it: each `return` cites the law of that way (`proofs/Answers.antt`).
use Prim.Native.Nat.{ℕ, ◌≤◌, ◌<◌}
use native.Mathlib.Omega.{arith}
use mathlib.Core.Path.{◌≡◌, sym, ap, ◌∙◌, subst}
use mathlib.Core.List.{List}
use lib.ListN.{length, replicate, length-replicate}
use lib.Seq.{length-sets}
use Rattle.std.specs.Prelude.{◌^◌, Result, Err}
use Rattle.std.specs.Result.{IfErr}
use Rattle.std.proofs.lemmas.Result.{err_from_is_err_and}
use Rattle.expr.specs.Lists.{all-at}
use Rattle.expr.specs.Number.{Byte}
use Rattle.expr.specs.Eval.{env_of}
use Rattle.file.specs.File.{header_version, header_inputs, head_of, Accepted}
use Rattle.file.specs.Shown.{listed}
use Rattle.file.specs.declared.Failure.{Failure}
use Rattle.file.specs.declared.Refusal.{Refusal}
use Rattle.file.proofs.FileLaws.{inputs-room, Header, copy_env}
use Rattle.file.proofs.CutLaws.{cut-long, ready_cut}
use Rattle.file.proofs.ReadingLaws.{refuses}
use Rattle.trace.specs.Trace.{is_trace, read_trace}
use Rattle.trace.specs.TraceLaws.{symbol-room}
use Rattle.trace.specs.Answer.{answer_of}
use Rattle.trace.specs.Shown.{symbol_room, answer_in, Ready}
use Rattle.trace.proofs.Answers.{offset-small, trace_accepted, right-header, is-ready, trace_refuses, valuation_refused, judged}
use Rattle.trace.proofs.try_judge.Goals as goal
use Rattle.trace.proofs.try_judge.Goals.{After-from_residual, In_ok-n}

-- the trace is refused: the error that goes on is the reader's
handed : (c : After-from_residual) → c.from_residual.result ≡ Err c.in_err-n.field-0.0.why
handed c =
    let p = err_from_is_err_and c.from_residual.result c.from_residual.ensures.1 in
    p.1 ∙ ap {B = Result (Result (Unit {0}) Failure) Refusal} Err p.2

pub returns-in_err-n-clause-answer : goal.returns-in_err-n-clause-answer
returns-in_err-n-clause-answer c =
    ap answer_in (handed (goal.at.returns-in_err-n-clause-answer c).After-from_residual)
    ∙ trace_refuses _ _ _ _ (refuses c.in_err-n.ensures)

pub returns-in_err-n-clause-small : goal.returns-in_err-n-clause-small
returns-in_err-n-clause-small c =
    let small = offset-small c.in_err-n.ensures (all-at Byte c.args.trace.now (λ i h. (c.type_inv.trace i).fits)) in
    subst (λ r. IfErr {T = Result (Unit {0}) Failure} r (λ why. why.offset < 2 ^ 32))
    (sym (handed (goal.at.returns-in_err-n-clause-small c).After-from_residual)) (omega arith)

-- the trace is accepted
module _ (c : In_ok-n) where
  abbrev s : List ℕ
  s = c.args.trace.now

  accepted : read_trace s ≡ Accepted (head_of s) (listed (read_trace s))
  accepted = trace_accepted c.in_ok-n.ensures

  head : Header is_trace 4096 s
  head = right-header c.in_ok-n.ensures

  has_room : header_inputs s ≤ symbol_room
  has_room = omega (arith, head.inputs, inputs-room (header_version s), symbol-room)

  ready : Ready s c.read_trace.new.offsets c.in_ok-n.n
  ready = is-ready c.in_ok-n.ensures (omega (arith, length-replicate {A = ℕ} 4096 0))

pub inputs_of-requires : goal.inputs_of-requires
inputs_of-requires c = (head (goal.at.inputs_of-requires c).In_ok-n).long

pub returns-then-words-inputs_of-clause-answer : goal.returns-then-words-inputs_of-clause-answer
returns-then-words-inputs_of-clause-answer c =
    ap (λ f. answer_in (Err f)) c.into.ensures
    ∙ valuation_refused _ _ _ _ (accepted (goal.at.returns-then-words-inputs_of-clause-answer c).In_ok-n)
    (λ e. c.if-words-inputs_of.true (e ∙ sym c.inputs_of.ensures))

pub copy_words-requires : goal.copy_words-requires
unfolding symbol_room
copy_words-requires c =
    grind (arith, has_room (goal.at.copy_words-requires c).In_ok-n)

pub slice_bounds-offsets-end : goal.slice_bounds-offsets-end
slice_bounds-offsets-end c = (ready (goal.at.slice_bounds-offsets-end c).In_ok-n).room

pub slice_bounds-judge_from-end : goal.slice_bounds-judge_from-end
slice_bounds-judge_from-end c =
    sym (cut-long (ready (goal.at.slice_bounds-judge_from-end c).In_ok-n))

pub judge_from-requires : goal.judge_from-requires
unfolding symbol_room
judge_from-requires c =
    let words = c.args.words.now in (
      ready_cut (ready (goal.at.judge_from-requires c).In_ok-n),
      ap length c.copy_words.ensures ∙ length-sets (replicate symbol_room 0) 0 words ∙ length-replicate {A = ℕ} symbol_room 0,
    )

pub returns-clause-answer : goal.returns-clause-answer
unfolding symbol_room
returns-clause-answer c =
    let place = (goal.at.returns-clause-answer c).In_ok-n in
    let words = c.args.words.now in
    let right : length words ≡ header_inputs (s place) = c.if-words-inputs_of.false ∙ c.inputs_of.ensures in
    ap answer_of c.judge_from.ensures
    ∙ judged _ _ _ _ (accepted place) right c.copy_words.new.cells
    (ap env_of c.copy_words.ensures ∙ copy_env symbol_room words (omega (arith, right, has_room place)))
