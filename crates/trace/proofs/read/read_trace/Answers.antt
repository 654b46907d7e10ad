-- The header refuses, or the records answer.
use Prim.Native.Nat.{ℕ, ◌<◌}
use native.Mathlib.Omega.{arith}
use mathlib.Core.Path.{◌≡◌, sym, ap, ◌∙◌, subst}
use mathlib.Core.List.{List}
use lib.ListN.{length}
use Rattle.std.specs.Prelude.{Result, Err}
use Rattle.std.proofs.lemmas.Result.{err_from_is_err_and}
use Rattle.expr.specs.Lists.{all-at}
use Rattle.expr.specs.Number.{Byte}
use Rattle.file.specs.File.{header_version, header_reply}
use Rattle.file.specs.declared.Unread.{Unread}
use Rattle.file.proofs.FileLaws.{inputs-room, Header, header_is, header-known}
use Rattle.file.proofs.ReadingLaws.{short}
use Rattle.trace.specs.Trace.{is_trace, tells_bound}
use Rattle.trace.specs.Shown.{ReadTrace}
use Rattle.trace.proofs.Learning.{first-ready, first-reads}
use Rattle.trace.proofs.Answers.{header_read, records-read}
use Rattle.trace.proofs.read.read_trace.Goals as goal
use Rattle.trace.proofs.read.read_trace.Goals.{In_ok-header_reply}

pub returns-in_err-header_reply : goal.returns-in_err-header_reply
returns-in_err-header_reply c =
    let s = c.args.trace.now in
    let off = c.args.offsets.now in
    let p = err_from_is_err_and c.from_residual.result c.from_residual.ensures.1 in
    subst (ReadTrace s off off) (sym (p.1 ∙ ap {B = Result ℕ Unread} Err p.2))
    (header_read s c.in_err-header_reply.field-0.0
    (header-known is_trace 4096 s (c.is_trace.ensures ∙ ap is_trace c.version_of-version.ensures) c.in_err-header_reply.ensures) off)

-- the header that the bytes begin with
module _ (c : In_ok-header_reply) where
  abbrev s : List ℕ
  s = c.args.trace.now

  good : header_reply is_trace 4096 s ≡ 0
  good = sym (header-known is_trace 4096 s (c.is_trace.ensures ∙ ap is_trace c.version_of-version.ensures) c.in_ok-header_reply.ensures)

  head : Header is_trace 4096 s
  head = header_is is_trace 4096 s good

  small : length s < 65536
  small = short is_trace 4096 s (all-at Byte s (λ i h. (c.type_inv.trace i).fits)) good

pub inputs_of-requires : goal.inputs_of-requires
inputs_of-requires c = (head (goal.at.inputs_of-requires c).In_ok-header_reply).long

pub count_of-requires : goal.count_of-requires
count_of-requires c = (head (goal.at.count_of-requires c).In_ok-header_reply).long

pub read_records-requires : goal.read_records-requires
read_records-requires c =
    let place = (goal.at.read_records-requires c).In_ok-header_reply in (
      (head place).long,
      small place,
      grind (arith, (head place).count),
      first-ready c.at_first-seen.ensures
          (grind (arith, (head place).inputs, inputs-room (header_version (s place)))),
    )

pub returns : goal.returns
returns c =
    records-read _ (good (goal.at.returns c).In_ok-header_reply) c.inputs_of.ensures
    (c.tells_bound-bounds.ensures ∙ ap tells_bound c.version_of-version.ensures) c.count_of.ensures
    (first-reads c.at_first-seen.ensures c.read_records.ensures)
