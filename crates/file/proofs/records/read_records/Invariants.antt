-- The invariant is `Walking`: see there. The reader stays ready, and means the same by a record.
use mathlib.Core.Path.{◌≡◌}
use Rattle.file.proofs.WalkLaws.{Walking}
use Rattle.file.proofs.records.read_records.Given as goal

abbrev pub invariant-loop-k : goal.invariant-loop-k
invariant-loop-k g l =
    let r = g.R.Reader in
    Walking (r.one l.initial.reader) (r.next l.initial.reader) l.s l.n (r.state l.initial.reader) l.initial.offsets l.offsets l.at l.k
    (r.state l.reader)
    × r.ready l.reader
    × (r.one l.reader ≡ r.one l.initial.reader)
    × (r.next l.reader ≡ r.next l.initial.reader)
