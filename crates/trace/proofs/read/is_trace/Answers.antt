use borrow.Author.Tests.{eq-eqb, ne_eqb}
use Rattle.trace.specs.Trace.{trace_version, old_version, is_trace}
use Rattle.trace.proofs.read.is_trace.Goals as goal

pub returns-then-version-eq-VERSION : goal.returns-then-version-eq-VERSION
unfolding is_trace trace_version old_version
returns-then-version-eq-VERSION c = rw (eq-eqb _ _ c.if-version-eq-VERSION.true)

pub returns-else-version-eq-VERSION : goal.returns-else-version-eq-VERSION
unfolding is_trace trace_version old_version
returns-else-version-eq-VERSION c = rw (ne_eqb _ _ c.if-version-eq-VERSION.false)
