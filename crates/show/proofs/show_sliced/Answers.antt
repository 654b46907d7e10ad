-- The slice stands whole in its buffer, and its text is written.
use Rattle.std.proofs.Common.{ap, ◌∙◌}
use Rattle.expr.specs.Lists.{all-at}
use Rattle.expr.specs.Number.{Byte}
use Rattle.file.specs.Shown.{is_accepted}
use Rattle.trace.specs.Trace.{read_trace}
use Rattle.slice.specs.Answer.{slice_answer}
use Rattle.show.specs.Text.{trace_text}
use Rattle.show.proofs.Whole.{First, first-bytes, Kept, kept, fitted_as}
use Rattle.show.proofs.show_sliced.Goals as goal
use Rattle.show.proofs.show_sliced.Goals.{After-shared_slice_known-1, After-slice_trace-s}

slice_kept : (c : After-shared_slice_known-1) → Kept c.args.trace.now
slice_kept c =
    kept c.args.trace.now (all-at Byte c.args.trace.now (λ i h. (c.shared_slice_known-1.given i).fits))
    c.requires.0 c.requires.1

in_buffer : (c : After-slice_trace-s) → First c.slice_trace-s.result.length c.slice_trace-s.new.out
    (slice_answer c.args.trace.now 65535).bytes
in_buffer c =
    first-bytes (λ n. (slice_answer c.args.trace.now n).bytes)
    c.room-kept.result c.room-kept.ensures
    c.slice_trace-s.ensures.buffer (ap (λ a. a.length) c.slice_trace-s.ensures.answer)

pub show_trace-requires : goal.show_trace-requires
show_trace-requires c =
    ap (λ s. is_accepted (read_trace s)) (in_buffer (goal.at.show_trace-requires c).After-slice_trace-s).those
    ∙ (slice_kept (goal.at.show_trace-requires c).After-shared_slice_known-1).accepted

pub returns-clause-text : goal.returns-clause-text
returns-clause-text c =
    fitted_as (ap (λ s. trace_text (read_trace s)) (in_buffer (goal.at.returns-clause-text c).After-slice_trace-s).those
    ∙ (slice_kept (goal.at.returns-clause-text c).After-shared_slice_known-1).text)
    c.show_trace.ensures.text
