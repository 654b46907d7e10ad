-- The header, the opening and the copies are written one behind the other.
use Prim.Native.Nat.{ℕ, ◌≤◌}
use native.Mathlib.Omega.{arith}
use mathlib.Core.Path.{◌≡◌}
use lib.ListN.{length}
use Rattle.file.specs.File.{head_size, input_room, inputs_limit}
use Rattle.file.proofs.FileLaws.{symbols_in_two-bytes}
use Rattle.file.specs.Shown.{listed}
use Rattle.table.specs.Table.{read_table}
use Rattle.trace.specs.Trace.{trace_version}
use Rattle.trace.specs.EncodeLaws.{room-written}
use Rattle.unwind.proofs.Accepted.{bytes, counted, long, few-inputs}
use Rattle.unwind.proofs.Answers.{rest-size, all-written}
use Rattle.unwind.proofs.write_all.Goals as goal
use Rattle.unwind.proofs.write_all.Goals.{After-put_header-a, Start}

pub inputs_of-inputs-requires : goal.inputs_of-inputs-requires
inputs_of-inputs-requires c = long _ _ _ (bytes c.args.source) c.args.source.ready

pub put_header-a-requires : goal.put_header-a-requires
unfolding trace_version
put_header-a-requires c =
    let room : head_size trace_version ≤ length c.args.out.now = grind arith in
    let few : c.inputs_of-inputs.result ≤ inputs_limit trace_version =
    grind (arith, few-inputs _ _ _ (bytes c.args.source) c.args.source.ready, room-written) in
    (room, few)

-- the header is written
module _ (c : After-put_header-a) where
  abbrev start : Start
  start = (goal.at.After-put_header-a c).Start

  abbrev S : ℕ
  S = c.inputs_of-inputs.result

  few : S ≤ input_room
  few = grind (arith, few-inputs _ _ _ (bytes c.args.source) c.args.source.ready)

  after-header : c.put_header-a.result ≡ head_size trace_version
  unfolding trace_version
  after-header = c.put_header-a.ensures.1

pub put_opening-b-requires : goal.put_opening-b-requires
put_opening-b-requires c =
    let place = (goal.at.put_opening-b-requires c).After-put_header-a in
    grind (arith, after-header place, (start place).requires.3, (start place).requires.4)

pub overflow_add-f : goal.overflow_add-f
overflow_add-f c = omega (arith, few (goal.at.overflow_add-f c).After-put_header-a, symbols_in_two-bytes)

pub write_copies-requires : goal.write_copies-requires
write_copies-requires c =
    let place = (goal.at.write_copies-requires c).After-put_header-a in
    let s = start place in
    let table = s.args.source.table.now in
    let n = c.first_names-names.ensures in (
      s.requires.0,
      omega (arith, few place, symbols_in_two-bytes, s.requires.1, s.requires.2),
      grind (arith, few place, n.0),
      grind (
        arith,
        after-header place,
        rest-size (S place) (listed (read_table table)) s.args.bound c.first_names-names.result n.1,
        s.requires.3,
        s.requires.4,
      ),
    )

pub returns : goal.returns
unfolding trace_version
returns c =
    let place = (goal.at.returns c).After-put_header-a in
    let s = start place in
    all-written (S place) (listed (read_table s.args.source.table.now)) s.args.bound c.first_names-names.result
    c.first_names-names.ensures.1 (length s.args.source.offsets.now) s.args.total s.args.count
    (counted _ _ _ (bytes s.args.source) s.args.source.ready) s.requires.3
    s.requires.1 s.requires.4
    c.put_header-a.ensures.0 c.put_opening-b.ensures c.write_copies.ensures c.inputs_of-inputs.ensures
