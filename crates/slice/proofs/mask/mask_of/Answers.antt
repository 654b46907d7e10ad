use Prim.Native.Nat.{◌+◌, ◌*◌, ◌%◌, ◌^◌, ◌<◌}
use native.Mathlib.Omega.{arith}
use mathlib.Core.Path.{sym, ap, ◌∙◌, subst}
use native.Mathlib.Numerals.{add-one}
use lib.Bits.{bit_or}
use mir.Val.{bool_byte}
use Rattle.expr.specs.Word.{test}
use Rattle.trace.specs.Shown.{symbol_room}
use Rattle.slice.specs.Mask.{mask_of}
use Rattle.slice.specs.MaskLaws.{mask_lt}
use Rattle.slice.specs.Shown.{in_set}
use Rattle.slice.proofs.Bits.{bit-set}
use Rattle.slice.proofs.mask.mask_of.Goals as goal

pub contains-requires : goal.contains-requires
unfolding symbol_room
contains-requires c = grind arith

pub loop-s-preserved : goal.loop-s-preserved
loop-s-preserved c =
    let s = c.loop-s.s in
    let set = in_set c.args.needed.now in
    let small : c.loop-s.mask < 2 ^ s = subst (λ m. m < 2 ^ s) (sym c.loop-s.invariant) (mask_lt s set) in
    ap (λ w. bit_or c.loop-s.mask (w * 2 ^ s % 2 ^ 64)) (c.from.ensures ∙ ap bool_byte c.contains.ensures)
    ∙ bit-set c.loop-s.mask s (set s) (grind arith) small
    ∙ ap (λ m. test (set s) * 2 ^ s + m) c.loop-s.invariant
    ∙ sym (ap (λ n. mask_of n set) (add-one s))
