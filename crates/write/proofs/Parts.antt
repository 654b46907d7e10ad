-- A part that is copied byte after byte: the bytes so far are written, and a byte behind the buffer's end is no store.
use Rattle.std.proofs.Common.{ℕ, ◌+◌, ◌<◌, ◌≡◌, refl, List, [], ◌∷◌, length, take, get_or}
use Rattle.std.proofs.Common.{arith, sym}
use Rattle.std.proofs.lemmas.List.{take_more}
use Rattle.std.proofs.Math.ListN.{set}
use Rattle.write.specs.Splice.{splice, Wrote}
use Rattle.write.specs.SpliceLaws.{◌then◌, wrote_as}

pub copied_none : (out : List ℕ) (at : ℕ) → Wrote out at [] out (at + 0)
unfolding splice
copied_none out at = record { buffer = refl; next = refl }

stored : (out : List ℕ) (at b : ℕ) {next : ℕ} → next ≡ at + 1 → Wrote out at (b ∷ []) (set out at b) next
unfolding splice
stored out at b e = record { buffer = refl; next = e }

pub copied_more : (part : List ℕ) (i : ℕ) {out : List ℕ} {at : ℕ} {now : List ℕ} → i < length part
    → Wrote out at (take i part) now (at + i)
    → Wrote out at (take (i + 1) part) (set now (at + i) (get_or part i 0)) (at + (i + 1))
copied_more part i h w = wrote_as (sym (take_more part i 0 h)) (w then stored _ _ _ (omega arith))
