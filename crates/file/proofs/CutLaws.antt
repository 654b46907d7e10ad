-- An array of offsets, cut to those that are stored: the file is as ready with them.
use Prim.Native.Nat.{ℕ}
use native.Mathlib.Omega.{arith}
use mathlib.Core.Path.{◌≡◌, sym, ap, ◌∙◌}
use mathlib.Core.List.{List}
use lib.ListN.{length, take, get_or}
use Rattle.std.proofs.lemmas.List.{get_or-take, length-take-le}
use Rattle.file.specs.File.{Input}
use Rattle.file.specs.Shown.{offsets_in, Ready}

module _ {A : Type 0} {file : Input A} {s off : List ℕ} {n : ℕ} (r : Ready file s off n) where
  pub cut-long : length (take n off) ≡ n
  cut-long = length-take-le n off r.room

  pub ready_cut : Ready file s (take n off) (length (take n off))
  ready_cut = record {
    accepted = r.accepted;
    count = cut-long ∙ r.count;
    room = omega arith;
    stored = λ i h.
        get_or-take n off i 0 (omega (arith, cut-long)) ∙ r.stored i (omega (arith, cut-long))
        ∙ ap (λ n. get_or (offsets_in n s) i 0) (sym cut-long);
  }
