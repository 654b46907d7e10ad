use Rattle.file.proofs.FileLaws.{frame_missing, frame-long, frame-there}
use mathlib.Core.Path.{sym, ap, ◌∙◌}
use mathlib.Core.Bool.{cond}
use native.Mathlib.Omega.{arith}
use lib.ListN.{drop, length-drop}
use borrow.Author.Tests.{eq-eqb, ne_eqb}
use Prim.Native.Nat.{ℕ}
use mathlib.Core.Path.{◌≡◌}
use mathlib.Core.List.{List}
use Rattle.std.specs.Prelude.{Some, None}
use Rattle.file.specs.File.{frame}
use Rattle.file.specs.Shown.{frame_in}
use Rattle.file.proofs.frame_at.Goals as goal

missing : (bs : List ℕ) → frame bs ≡ 0 → None ≡ frame_in bs
missing bs e = sym (ap (λ b. cond b None (Some (frame bs))) (eq-eqb (frame bs) 0 e))

pub returns-then-left-lt2 : goal.returns-then-left-lt2
returns-then-left-lt2 c =
    let s = c.args in
    missing (drop s.at s.s.now) (frame_missing (drop s.at s.s.now) (omega (arith, length-drop s.at s.s.now)))

pub returns-then-left-len : goal.returns-then-left-len
returns-then-left-len c =
    let s = c.args in
    let l = length-drop s.at s.s.now in
    missing (drop s.at s.s.now) (frame-long (drop s.at s.s.now) (omega arith) (grind arith))

pub returns-then-len-eq0 : goal.returns-then-len-eq0
returns-then-len-eq0 c =
    let s = c.args in
    let l = length-drop s.at s.s.now in
    missing (drop s.at s.s.now) (
    frame-there (drop s.at s.s.now) (grind arith)
    ∙ sym c.two_at-len.ensures.0 ∙ c.if-len-eq0.true)

pub returns : goal.returns
returns c =
    let s = c.args in
    let l = length-drop s.at s.s.now in
    let there = c.two_at-len.ensures.0 ∙ sym (frame-there (drop s.at s.s.now) (grind arith)) in
    ap (λ n. Some n) there
    ∙ sym (ap (λ b. cond b None (Some (frame (drop s.at s.s.now))))
    (ne_eqb (frame (drop s.at s.s.now)) 0 (λ z. c.if-len-eq0.false (there ∙ z))))
