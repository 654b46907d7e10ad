-- What a statement that is read adds to what may be read and assigned after it: the code's marks follow the definition's state.
use Prim.Native.Nat.{ℕ, ◌+◌, ◌≤◌, ◌<◌}
use native.Mathlib.Omega.{arith}
use native.Mathlib.Numerals.{add-one}
use mathlib.Core.Path.{◌≡◌, refl, sym, ap, ap₂, ◌∙◌, subst, fun_ext}
use mathlib.Core.Bool.{Bool, true, false, ◌||◌}
use mathlib.Core.List.{List}
use lib.ListN.{length, drop, get_or, set, replicate, length-replicate}
use lib.Seq.{get_or-set_same, get_or-set_other}
use lib.Dec.{eqb, ltb}
use borrow.Author.Tests.{eqb-true, eqb-false}
use Rattle.expr.specs.Lists.{or_right, or_false}
use Rattle.expr.specs.Expr.{readable}
use Rattle.std.specs.Prelude.{Result}
use Rattle.file.specs.Outcome.{Kind}
use Rattle.file.specs.File.{input_room, Good, record_of}
use Rattle.file.specs.Shown as File
use Rattle.file.specs.declared.Unread.{Unread}
use Rattle.file.proofs.FileLaws.{same_everywhere}
use Rattle.trace.specs.declared.read.Action.TheVariants as A
use Rattle.trace.specs.declared.read.Seen as Code
use Rattle.trace.specs.Trace.{Stmt, Seen, see, stmt}
use Rattle.trace.specs.TraceLaws.{symbol-room}
use Rattle.trace.specs.Shown.{symbol_room, action_at, seen, seen_in, first_seen, unseen, ReadRecords}
use Rattle.trace.proofs.Held.{Held, acts-assign, acts-test}

marked-readable : (S : ℕ) (marks : List Bool) (x : ℕ) → x < length marks
    → readable S (set marks x true) ≡ (λ y. eqb y x || readable S marks y)
marked-readable S marks x h = fun_ext (λ y. go y (eqb y x) refl)
  where
    go : (y : ℕ) (b : Bool) → eqb y x ≡ b → readable S (set marks x true) y ≡ b || readable S marks y
    go y true e =
        ap (λ y. ltb y S || get_or (set marks x true) y false) (eqb-true y x e)
        ∙ ap (λ b. ltb x S || b) (get_or-set_same marks x true false h)
        ∙ or_right (ltb x S) true refl
    go y false e = ap (λ b. ltb y S || b) (get_or-set_other marks x y true false (λ z. eqb-false y x e z))

-- at first none is marked
pub none_marked : (S : ℕ) (b : Bool) (n : ℕ) → seen S S (replicate n false) b ≡ unseen S b
none_marked S b n =
    ap {B = Seen} (λ f. record { readable = f; least = S; bounds = b })
    (fun_ext (λ y. ap (λ b. ltb y S || b) (same_everywhere n false y) ∙ or_false (ltb y S)))

module _ {S : ℕ} {b : Bool} {v : Code.Seen} (e : v ≡ first_seen S b) where
  pub first-ready : S ≤ input_room → (v.inputs ≤ input_room) × (length v.assigned ≡ symbol_room)
  first-ready h =
      subst (λ v. (v.inputs ≤ input_room) × (length v.assigned ≡ symbol_room)) (sym e) (h, length-replicate symbol_room false)

  -- what is read from there is the trace's reading
  pub first-reads : {s : List ℕ} {n : ℕ} {off off' : List ℕ} {r : Result ℕ Unread}
      → File.ReadRecords (stmt (v.inputs + 4096)) see s n (seen_in v) off off' r → ReadRecords s S b n off off' r
  first-reads {s} {n} {off} {off'} {r} w =
      subst (λ σ. File.ReadRecords (stmt (S + 4096)) see s n σ off off' r) (none_marked S b symbol_room)
      (subst (λ v. File.ReadRecords (stmt (v.inputs + 4096)) see s n (seen_in v) off off' r) e w)

module _ (v : Code.Seen) {s : List ℕ} {at : ℕ} (h : Held (v.inputs + 4096) (seen_in v) s at) (x : Stmt)
    (e : record_of (stmt (v.inputs + 4096) (seen_in v)) (drop at s) ≡ Good x) where
  same : h.statement ≡ x
  same = let z : Good h.statement ≡ Good x = sym h.is ∙ e in cc

  pub learns_symbol : v.inputs ≤ input_room → length v.assigned ≡ symbol_room → (y : ℕ) → action_at s at ≡ A.Assign y
      → seen_in (record v { least = y + 1; assigned = set v.assigned y true }) ≡ see (seen_in v) x
  learns_symbol few long y k =
      let a = acts-assign h y k in
      ap₂ (λ r l. record { readable = r; least = l; bounds = v.bounds })
      (marked-readable v.inputs v.assigned y (omega (arith, a.1, few, long, symbol-room))) (add-one y)
      ∙ ap (see (seen_in v)) (sym a.0 ∙ same)

  pub learns_nothing : (k : Kind) → action_at s at ≡ A.Test k → seen_in v ≡ see (seen_in v) x
  learns_nothing k q = ap (see (seen_in v)) (sym (acts-test h k q) ∙ same)
