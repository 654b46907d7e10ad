-- Document 01, "Running a table under bound K" and judging: how a run, or the judging of a trace, ends.
use Rattle.std.specs.Prelude.{ℕ, Bool, true, false}
use Rattle.file.specs.declared.Kind as Declared
use Rattle.file.specs.declared.Kind.TheVariants as K

-- what a test is for: an assumption, what must hold, the bound on back jumps
abbrev pub Kind : Type 0
Kind = Declared.Kind

pattern abbrev pub Assume : Kind
Assume = K.Assume

pattern abbrev pub Assert : Kind
Assert = K.Assert

pattern abbrev pub Bound : Kind
Bound = K.Bound

-- past the end, or at a place where a test is false. `Lost` is a run that has used up its fuel: none does (`run-never_lost`)
pub data Outcome : Type 0 where
  Ended : Outcome
  Failed : Kind → (place : ℕ) → Outcome
  Lost : Outcome

-- the verdict's number: 0 ended, 1 unsafe, 2 stopped by an Assume, 3 cut by the bound
abbrev pub verdict : Outcome → ℕ
verdict Ended = 0
verdict (Failed Assume p) = 2
verdict (Failed Assert p) = 1
verdict (Failed Bound p) = 3
verdict Lost = 0

-- an Assert was false
abbrev pub unsafe : Outcome → Bool
unsafe Ended = false
unsafe (Failed Assume p) = false
unsafe (Failed Assert p) = true
unsafe (Failed Bound p) = false
unsafe Lost = false

-- all verdicts but unsafe have place 0
abbrev pub place_of : Outcome → ℕ
place_of Ended = 0
place_of (Failed Assume p) = 0
place_of (Failed Assert p) = p
place_of (Failed Bound p) = 0
place_of Lost = 0
