use Prim.Native.Nat.{◌+◌}
use native.Mathlib.Omega.{arith}
use mathlib.Core.Path.{◌≡◌, sym, ap, ◌∙◌}
use mathlib.Core.List.{◌++◌}
use lib.ListN.{length, drop}
use Rattle.std.proofs.lemmas.List.Edits.{sets-eq}
use Rattle.file.proofs.copy_words.Goals as goal

pub returns : goal.returns
returns c =
    let words = c.args.words.now in
    let cells = c.args.cells.now in
    ap (λ r. r ++ drop (length words) cells) c.copy_from_slice.ensures.after
    ∙ ap (λ n. words ++ drop n cells) (let e : length words ≡ 0 + length words = omega arith in e)
    ∙ sym (sets-eq words cells 0 (grind arith))
