-- A trace that is ready to be walked: its statements, each of which the record at its offset holds.
use Prim.Native.Nat.{ℕ, ◌<◌}
use mathlib.Core.Path.{◌≡◌, sym, ap, ◌∙◌}
use mathlib.Core.Bool.{true}
use mathlib.Core.List.{List, ◌∷◌}
use lib.ListN.{drop, get_or, length}
use Rattle.file.specs.File.{Good}
use Rattle.file.specs.Shown.{is_good, listed}
use Rattle.trace.specs.Trace.{Stmt, read_trace}
use Rattle.trace.specs.Shown.{held, Ready}
use Rattle.trace.proofs.Judging.{Loaded, loaded, Here, here}

module _ {s off : List ℕ} {n : ℕ} (r : Ready s off n) where
  pub is-loaded : Loaded s (listed (read_trace s))
  is-loaded = loaded s r.accepted

  pub counted : n ≡ length (listed (read_trace s))
  counted = r.count ∙ sym is-loaded.count

  pub stands : (k : ℕ) → k < n → Here s off n (listed (read_trace s)) is-loaded r.count r.stored k
  stands k h = here s off n (listed (read_trace s)) is-loaded r.count r.stored k h

  -- at the offset that a loop is given
  pub record At (k at : ℕ) : Type 0 where
    pub statement : Stmt
    pub after : List Stmt
    pub is-here : drop k (listed (read_trace s)) ≡ statement ∷ after
    pub is-held : held (drop at s) ≡ Good statement
    pub good : is_good (held (drop at s)) ≡ true

  pub stands_at : (k : ℕ) → k < n → {at : ℕ} → at ≡ get_or off k 0 → At k at
  stands_at k h q =
      let x = stands k h in
      let g = ap (λ o. held (drop o s)) q ∙ x.good in
      record { statement = x.statement; after = x.after; is-here = x.is-here; is-held = g; good = ap is_good g }
