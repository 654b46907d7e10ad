-- The header refuses, or the records answer.
use Prim.Native.Nat.{ℕ, ◌<◌}
use native.Mathlib.Omega.{arith}
use mathlib.Core.Path.{◌≡◌, sym, ap, ◌∙◌, subst}
use mathlib.Core.List.{List}
use lib.ListN.{length}
use Rattle.expr.specs.Lists.{all-at}
use Rattle.expr.specs.Number.{Byte}
use Rattle.file.specs.File.{header_reply}
use Rattle.file.specs.declared.Unread.{Unread}
use Rattle.file.proofs.FileLaws.{Header, header_is, header-known}
use Rattle.std.specs.Prelude.{Result, Err}
use Rattle.std.proofs.lemmas.Result.{err_from_is_err_and}
use Rattle.table.specs.Table.{is_table}
use Rattle.table.specs.Shown.{ReadTable}
use Rattle.file.proofs.ReadingLaws.{short}
use Rattle.table.proofs.Answers.{header_read, records-read}
use Rattle.table.proofs.read.read_table.Goals as goal
use Rattle.table.proofs.read.read_table.Goals.{In_ok-header_reply}

pub returns-in_err-header_reply : goal.returns-in_err-header_reply
returns-in_err-header_reply c =
    let table = c.args.table.now in
    let off = c.args.offsets.now in
    let p = err_from_is_err_and c.from_residual.result c.from_residual.ensures.1 in
    subst (ReadTable table off off) (sym (p.1 ∙ ap {B = Result ℕ Unread} Err p.2))
    (header_read table c.in_err-header_reply.field-0.0
    (header-known is_table 1024 table (c.is_table-known.ensures ∙ ap is_table c.version_of.ensures) c.in_err-header_reply.ensures) off)

-- the header that the bytes begin with
module _ (c : In_ok-header_reply) where
  abbrev s : List ℕ
  s = c.args.table.now

  good : header_reply is_table 1024 s ≡ 0
  good = sym (header-known is_table 1024 s (c.is_table-known.ensures ∙ ap is_table c.version_of.ensures) c.in_ok-header_reply.ensures)

  head : Header is_table 1024 s
  head = header_is is_table 1024 s good

  small : length s < 65536
  small = short is_table 1024 s (all-at Byte s (λ i h. (c.type_inv.table i).fits)) good

pub inputs_of-requires : goal.inputs_of-requires
inputs_of-requires c = (head (goal.at.inputs_of-requires c).In_ok-header_reply).long

pub count_of-n-requires : goal.count_of-n-requires
count_of-n-requires c = (head (goal.at.count_of-n-requires c).In_ok-header_reply).long

pub read_records-requires : goal.read_records-requires
read_records-requires c =
    let place = (goal.at.read_records-requires c).In_ok-header_reply in
    ((head place).long, small place, grind (arith, (head place).count), tt)

pub returns : goal.returns
returns c =
    records-read _ (good (goal.at.returns c).In_ok-header_reply) c.inputs_of.ensures c.count_of-n.ensures c.read_records.ensures
