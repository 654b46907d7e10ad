-- A result that is written again into the same buffer changes nothing: it asks for the same room, and stands there already.
use Prim.Native.Nat.{ℕ}
use mathlib.Core.Path.{◌≡◌, ap, ap₂, ◌∙◌}
use mathlib.Core.List.{List, ◌++◌}
use lib.ListN.{length, drop}
use lib.Seq.{drop-append_seam}
use Rattle.write.specs.Splice.{over}

-- the buffer after one call or several, which write `bytes` of the room that there is
pub record Left (bytes : ℕ → List ℕ) (out out' : List ℕ) : Type 0 where
  pub room : length out' ≡ length out
  pub buffer : out' ≡ over (bytes (length out)) out

over-again : (bs out : List ℕ) → over bs (over bs out) ≡ over bs out
over-again bs out = ap (λ rest. bs ++ rest) (drop-append_seam bs (drop (length bs) out))

pub again : {bytes : ℕ → List ℕ} {out out' out'' : List ℕ} → Left bytes out out' → length out'' ≡ length out'
    → out'' ≡ over (bytes (length out')) out' → Left bytes out out''
again {bytes} {out} l e b = record {
  room = e ∙ l.room;
  buffer = b ∙ ap₂ (λ n o. over (bytes n) o) l.room l.buffer ∙ over-again (bytes (length out)) out;
}
