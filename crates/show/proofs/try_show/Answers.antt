-- Each way out cites the law of the way to it (`proofs/Whole.antt`).
use Rattle.std.proofs.Common.{◌≡◌, ℕ, ◌-◌, ◌<◌, ◌≤◌, true, List, length, take, drop, get_or, length-drop, sym, ap, ap₂}
use Rattle.std.proofs.Common.{◌∙◌, subst, arith, eqb-true}
use Rattle.std.proofs.lemmas.Bool.{eqb-false}
use Rattle.std.specs.Prelude.{Result, Ok, Err}
use lib.Seq.{take_all}
use Rattle.expr.specs.Lists.{all-at, all_drop}
use Rattle.expr.specs.Number.{Byte}
use Rattle.file.specs.declared.Refusal.{Refusal}
use Rattle.file.specs.Shown.{reply_of, is_accepted}
use Rattle.file.proofs.FileLaws.{reply-some}
use Rattle.trace.specs.Trace.{read_trace}
use Rattle.write.specs.Shown.{written}
use Rattle.unwind.specs.Answer.{Traced, trace_answer, numbers, TraceWritten}
use Rattle.slice.specs.Answer.{slice_answer}
use Rattle.show.specs.Text.{refusal_text, sliced_text}
use Rattle.show.proofs.Whole.{First, first-bytes, traced, printed_none, printed-refusal, printed-slice, fitted_as, shown}
use Rattle.show.proofs.try_show.Goals as goal
use Rattle.show.proofs.try_show.Goals.{After-try_write}

module _ (c : After-try_write) where
  abbrev s : List ℕ
  s = c.args.input.now

  abbrev table : List ℕ
  table = take (length s - 1) (drop 1 s)

  table_is : table ≡ drop 1 s
  table_is = take_all (length s - 1) (drop 1 s) (omega (arith, length-drop 1 s))

  -- what there is to write, and that it was written
  abbrev due : Traced
  due = trace_answer (drop 1 s) (get_or s 0 0) 65535

  told : TraceWritten table (get_or s 0 0) c.room-trace.result c.try_write.new.out (written c.try_write.result)
  told =
      subst (λ k. TraceWritten table k c.room-trace.result c.try_write.new.out (written c.try_write.result)) c.from.ensures
      c.try_write.ensures.answer

  due-is : trace_answer table (get_or s 0 0) (length c.room-trace.result) ≡ due
  due-is =
      ap (λ n. trace_answer table (get_or s 0 0) n) c.room-trace.ensures
      ∙ ap (λ b. trace_answer b (get_or s 0 0) 65535) table_is

  answer-is : written c.try_write.result ≡ numbers due
  answer-is = told.answer ∙ ap numbers due-is

  some_byte : 0 < length s
  some_byte = let n = eqb-false (length s) 0 (sym c.is_empty.ensures ∙ c.if-is_empty.false) in omega (arith, n)

  -- a trace of n bytes is written
  module _ (n : ℕ) (e : c.try_write.result ≡ Ok n) where
    done : due.reply ≡ 0
    done = sym (ap (λ a. a.reply) answer-is) ∙ ap (λ r. (written r).reply) e

    in_buffer : First n c.try_write.new.out due.bytes
    in_buffer =
        subst (λ b. First n c.try_write.new.out (trace_answer b (get_or s 0 0) 65535).bytes) table_is
        (first-bytes (λ k. (trace_answer table (get_or s 0 0) k).bytes) c.room-trace.result c.room-trace.ensures told.buffer
        (sym (ap (λ r. (written r).length) e) ∙ ap (λ a. a.length) told.answer))

    accepted : (is_accepted (read_trace due.bytes) ≡ true) × (length due.bytes ≤ 65535)
    accepted = traced (drop 1 s) (get_or s 0 0) 65535 (all_drop Byte 1 s (all-at Byte s (λ i h. (c.type_inv.input i).fits))) done

  -- none is, for a reason
  module _ (why : Refusal) (e : c.try_write.result ≡ Err why) where
    reply-is : due.reply ≡ reply_of why.reason
    reply-is = sym (ap (λ a. a.reply) answer-is) ∙ ap (λ r. (written r).reply) e

    offset-is : due.offset ≡ why.offset
    offset-is = sym (ap (λ a. a.offset) answer-is) ∙ ap (λ r. (written r).offset) e

pub returns-then-is_empty-clause-text : goal.returns-then-is_empty-clause-text
returns-then-is_empty-clause-text c =
    shown (fitted_as (ap (λ (w : Refusal). refusal_text (reply_of w.reason) w.offset) c.into.ensures
    ∙ sym (printed_none _ (eqb-true _ _ (sym c.is_empty.ensures ∙ c.if-is_empty.true)))) c.show_refusal.ensures.text)

pub show_sliced-requires : goal.show_sliced-requires
show_sliced-requires c =
    let place = (goal.at.show_sliced-requires c).After-try_write in
    let f = in_buffer place _ c.in-Ok.is in
    let a = accepted place _ c.in-Ok.is in
    (ap (λ t. is_accepted (read_trace t)) f.those ∙ a.0, omega (arith, ap length f.those, a.1))

pub returns-in-Ok-clause-text : goal.returns-in-Ok-clause-text
returns-in-Ok-clause-text c =
    let place = (goal.at.returns-in-Ok-clause-text c).After-try_write in
    shown
    (fitted_as (ap (λ t. sliced_text (slice_answer t 65535)) (in_buffer place _ c.in-Ok.is).those
    ∙ sym (printed-slice (s place) (some_byte place) (done place _ c.in-Ok.is)))
    c.show_sliced.ensures.text)

pub returns-in-Err-clause-text : goal.returns-in-Err-clause-text
returns-in-Err-clause-text c =
    let place = (goal.at.returns-in-Err-clause-text c).After-try_write in
    let r = reply-is place _ c.in-Err.is in
    shown
    (fitted_as (ap₂ refusal_text (sym r) (sym (offset-is place _ c.in-Err.is))
    ∙ sym (printed-refusal (s place) (some_byte place) (λ z. omega (arith, r, reply-some (c.in-Err.why).reason, z))))
    c.show_refusal-in-Err.ensures.text)
