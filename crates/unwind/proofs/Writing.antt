-- One instruction in one copy: the record that the code writes for it is that of its place, and the symbols are then the newest.
use Prim.Native.Nat.{ℕ, suc, ◌+◌, ◌*◌, ◌≤◌, ◌<◌}
use native.Mathlib.Omega.{arith}
use native.Mathlib.Numerals.{add-one}
use native.Mathlib.Nat.{mul-le-mul_left, mul-le-mul_right}
use mathlib.Core.Path.{◌≡◌, refl, sym, ap, ◌∙◌, subst, fun_ext}
use mathlib.Core.Bool.{Bool, true, false, not, cond, ◌&&◌}
use mathlib.Core.List.{List, [], ◌∷◌, ◌++◌, append-nil}
use lib.ListN.{length, drop, get_or, set}
use lib.Seq.{get_or-set_same, get_or-set_other}
use lib.Dec.{eqb, leb, ltb}
use borrow.Author.Tests.{eqb-true, eqb-false, le-leb, lt-leb, lt-ltb, le-ltb}
use Rattle.expr.specs.declared.File.TheVariants.{Table}
use Rattle.expr.specs.declared.word.Unary.TheVariants.{Zero}
use Rattle.expr.specs.declared.token.Token.{Token}
use Rattle.expr.specs.declared.token.Token.TheVariants.{Const, Symbol, Un, Ite}
use Rattle.expr.specs.Expr.{below, parse}
use Rattle.expr.specs.Eval.{update, rename}
use Rattle.expr.specs.Shown.{is_whole, tokens_of}
use Rattle.file.specs.Outcome.{Kind, Assume, Assert, Bound}
use Rattle.file.specs.File.{Body, Good, record_of, record_bytes, records_bytes}
use Rattle.table.specs.Table.{Instr, Assign, Test, IfThenGoto, instr}
use Rattle.table.specs.Run.{place_in}
use Rattle.table.specs.declared.read.Action.TheVariants as A
use Rattle.table.specs.Shown.{expr_part, action_at, expr_of}
use Rattle.table.proofs.Held.{Held}
use Rattle.table.proofs.Moves.{expr-whole, place_is, assign-is, test-is, goto-is}
use Rattle.trace.specs.Trace.{stmt_bytes}
use Rattle.trace.specs.Trace as T
use Rattle.write.specs.Splice.{Wrote}
use Rattle.write.specs.SpliceLaws.{wrote_as}
use Rattle.unwind.specs.Places.{Set, Check, Jump, Place, At, jump_in, action_in}
use Rattle.unwind.specs.Unwind.{Newest, guarded, statement, becomes, statements, advance}
use Rattle.unwind.specs.Size.{expr_size}
use Rattle.unwind.proofs.SizeLaws.{statement-size}
use Rattle.unwind.specs.declared.copy.Front.{Front}
use Rattle.unwind.specs.Shown.{current_of, newest_of, tokens_in, place_of, Written}
use Rattle.unwind.proofs.Exprs.{current-at}

-- ---- numbers

pub place-little : (n i r : ℕ) → n ≤ 1024 → i ≤ n → r ≤ 256 → r * (n + 1) + i ≤ 263424
place-little n i r a b c =
    let x : n + 1 ≤ 1025 = omega arith in
    omega (arith, mul-le-mul_left r x, mul-le-mul_right 1025 c)

pub current-set : (names : List ℕ) (s v : ℕ) → s < length names → current_of (set names s v) ≡ update (current_of names) s v
current-set names s v h = fun_ext (λ x. go x (eqb x s) refl)
  where
    go : (x : ℕ) (b : Bool) → eqb x s ≡ b → current_of (set names s v) x ≡ cond b v (current_of names x)
    go x true e = ap (current_of (set names s v)) (eqb-true x s e) ∙ get_or-set_same names s v s h
    go x false e = get_or-set_other names s x v x (λ q. eqb-false x s e q)

-- ---- one place

pub written_one : {c : Newest} {p : Place} {out : List ℕ} {to : ℕ} {out' names' : List ℕ} {f : Front}
    → Wrote out to (record_bytes stmt_bytes (statement Bound c p)) out' f.to
    → newest_of names' f.control f.next ≡ advance c p → Written c (p ∷ []) out to out' names' f
written_one {c} {p} w e = record { wrote = wrote_as (sym (append-nil (record_bytes stmt_bytes (statement Bound c p)))) w; newest = e }

last_copy : (r K : ℕ) → ltb r K ≡ not (not (ltb r K))
last_copy r K = go (ltb r K)
  where
    go : (b : Bool) → b ≡ not (not b)
    go true = refl
    go false = refl

-- the room for the record of a place
place-room : (c : Newest) (p q : Place) → p ≡ q → (to m : ℕ)
    → to + length (records_bytes stmt_bytes (statements Bound c (q ∷ []))) ≤ m
    → to + length (record_bytes stmt_bytes (statement Bound c p)) ≤ m
place-room c p q e to m l =
    omega (
      arith,
      ap (λ p. length (records_bytes stmt_bytes (statements Bound c (p ∷ [])))) e,
      ap length (append-nil (record_bytes stmt_bytes (statement Bound c p))),
    )

-- ---- a jump, at place j of copy r

module _ (n K r i j t w new : ℕ) (names : List ℕ) (e : List Token) where
  abbrev from : Newest
  from = newest_of names w new

  abbrev at_place : Place
  at_place = At j (jump_in n K r i t e)

  room_of : (k : ℕ) → cond (not (ltb r K) && leb t i) 21 29 ≡ k → (to m : ℕ)
      → to + length (records_bytes stmt_bytes (statements Bound from (at_place ∷ []))) ≤ m → to + (k + expr_size e) ≤ m
  room_of k z to m l =
      omega (
        arith,
        place-room from at_place at_place refl to m l,
        statement-size Bound from j n K r i (not (ltb r K)) (IfThenGoto t e) (last_copy r K),
        z,
      )

  goes_to : (goal : ℕ) → jump_in n K r i t e ≡ Jump goal e → (g : ℕ) → g ≡ goal
      → {out : List ℕ} {to : ℕ} {out' : List ℕ} {to' : ℕ}
      → Wrote out to (record_bytes stmt_bytes
      (T.Assign j new (guarded w j (rename (current_of names) e ++ Const g ∷ Symbol w ∷ Ite ∷ []) (Symbol w)))) out' to'
      → Written from (at_place ∷ []) out to out' names (record { control = new; next = new + 1; to = to' })
  goes_to goal z g b {out} {to} {out'} {to'} v =
      subst (λ a. Written from (At j a ∷ []) out to out' names (record { control = new; next = new + 1; to = to' })) (sym z)
      (written_one
      (wrote_as (ap (record_bytes stmt_bytes)
      (λ q. T.Assign j new (guarded w j (rename (current_of names) e ++ Const (b q) ∷ Symbol w ∷ Ite ∷ []) (Symbol w)))) v)
      (λ q. record { current = current_of names; control = new; next = add-one new q }))

  -- forward
  module _ (d : i < t) where
    pub forward-room : (to m : ℕ) → to + length (records_bytes stmt_bytes (statements Bound from (at_place ∷ []))) ≤ m
        → to + (29 + expr_size e) ≤ m
    forward-room to m l = room_of 29 (rw (lt-leb t i d) (early (not (ltb r K)))) to m l
      where
        early : (b : Bool) → ◌≡◌ {A = ℕ} (cond (b && false) 21 29) 29
        early true = refl
        early false = refl

    pub forward-written : (g : ℕ) → g ≡ r * (n + 1) + t
        → {out : List ℕ} {to : ℕ} {out' : List ℕ} {to' : ℕ}
        → Wrote out to (record_bytes stmt_bytes
        (T.Assign j new (guarded w j (rename (current_of names) e ++ Const g ∷ Symbol w ∷ Ite ∷ []) (Symbol w)))) out' to'
        → Written from (at_place ∷ []) out to out' names (record { control = new; next = new + 1; to = to' })
    forward-written g b v = goes_to (place_in n r t) (rw (lt-leb t i d)) g (b ∙ place_is n t r) v

  -- back, into the next copy
  module _ (d : t ≤ i) (l : r < K) where
    pub back-room : (to m : ℕ) → to + length (records_bytes stmt_bytes (statements Bound from (at_place ∷ []))) ≤ m
        → to + (29 + expr_size e) ≤ m
    back-room to m q = room_of 29 (rw (lt-ltb r K l)) to m q

    pub back-written : (g : ℕ) → g ≡ (r + 1) * (n + 1) + t
        → {out : List ℕ} {to : ℕ} {out' : List ℕ} {to' : ℕ}
        → Wrote out to (record_bytes stmt_bytes
        (T.Assign j new (guarded w j (rename (current_of names) e ++ Const g ∷ Symbol w ∷ Ite ∷ []) (Symbol w)))) out' to'
        → Written from (at_place ∷ []) out to out' names (record { control = new; next = new + 1; to = to' })
    back-written g b v =
        goes_to (place_in n (suc r) t) (rw (le-leb t i d, lt-ltb r K l)) g (b ∙ ap (λ x. x * (n + 1) + t) (add-one r)
        ∙ place_is n t (suc r)) v

  -- back, in the last copy
  module _ (d : t ≤ i) (l : K ≤ r) where
    pub bound-room : (to m : ℕ) → to + length (records_bytes stmt_bytes (statements Bound from (at_place ∷ []))) ≤ m
        → to + (21 + expr_size e) ≤ m
    bound-room to m q = room_of 21 (rw (le-leb t i d, le-ltb r K l)) to m q

    pub bound-written : (x : ℕ) → w ≡ x → {out : List ℕ} {to : ℕ} {out' : List ℕ} {to' : ℕ}
        → Wrote out to (record_bytes stmt_bytes
        (T.Test Bound j (guarded w j (rename (current_of names) (e ++ Un Zero ∷ [])) (Const 1)))) out' to'
        → Written from (at_place ∷ []) out to out' names (record { control = x; next = new; to = to' })
    bound-written x p {out} {to} {out'} {to'} v =
        subst (λ a. Written from (At j a ∷ []) out to out' names (record { control = x; next = new; to = to' }))
        (let z : Check Bound (e ++ Un Zero ∷ []) ≡ jump_in n K r i t e = rw (le-leb t i d, le-ltb r K l) in z)
        (written_one v (λ q. record { current = current_of names; control = sym p q; next = new }))

-- ---- an instruction, in copy r

module _ {n : ℕ} {s : List ℕ} {at : ℕ} (names : List ℕ) (h : Held (length names) n s at) (K r i w new : ℕ) where
  abbrev rec : Body Instr
  rec = record_of (instr (length names) n) (drop at s)

  abbrev c : Newest
  c = newest_of names w new

  -- the place of the instruction, by its form and what stands there
  by_form : (x : Instr) → h.instruction ≡ x → (j : ℕ) → j ≡ r * (n + 1) + i → At j (action_in n K r i x) ≡ place_of n K r i rec
  by_form x q j a =
      ap (λ j. At j (action_in n K r i x)) (a ∙ place_is n i r) ∙ sym (ap (place_of n K r i) (h.is ∙ ap {B = Body Instr} Good q))

  -- the part that the code cuts out for the expression, and the number of the place
  module _ (part : List ℕ) (q : part ≡ expr_part s at) (j : ℕ) (a : j ≡ r * (n + 1) + i) where
    abbrev e : List Token
    e = tokens_in names part

    pub part-whole : is_whole (parse Table (below (length names)) part) ≡ true
    part-whole = ap is_whole (expr-whole h q)

    tokens_are : expr_of h.instruction ≡ e
    tokens_are = sym (ap tokens_of (expr-whole h q))

    -- an Assign
    module _ (y : ℕ) (acts : action_at s at ≡ A.Assign y) where
      known : y < length names
      known = h.symbols y (sym h.acts ∙ acts)

      assigns : At j (Set y e) ≡ place_of n K r i rec
      assigns = by_form (Assign y e) (assign-is h.instruction y (sym h.acts ∙ acts) ∙ ap {B = Instr} (Assign y) tokens_are) j a

      pub assign-room : (to m : ℕ) → to + length (records_bytes stmt_bytes (statements Bound c (place_of n K r i rec ∷ []))) ≤ m
          → to + (20 + expr_size e) ≤ m
      assign-room to m l =
          omega (
            arith,
            place-room c (At j (Set y e)) (place_of n K r i rec) assigns to m l,
            statement-size Bound c j n K r i (not (ltb r K)) (Assign y e) (last_copy r K),
          )

      pub assign-written : (o : ℕ) → o ≡ get_or names y 0 → {out : List ℕ} {to : ℕ} {out' : List ℕ} {to' : ℕ}
          → Wrote out to (record_bytes stmt_bytes (T.Assign j new (guarded w j (rename (current_of names) e) (Symbol o)))) out' to'
          → Written c (place_of n K r i rec ∷ []) out to out' (set names y new) (record { control = w; next = new + 1; to = to' })
      assign-written o p {out} {to} {out'} {to'} v =
          let u : current_of (set names y new) ≡ update (current_of names) y new = current-set names y new known in
          subst (λ p. Written c (p ∷ []) out to out' (set names y new) (record { control = w; next = new + 1; to = to' })) assigns
          (written_one
          (wrote_as (ap (λ o. record_bytes stmt_bytes (T.Assign j new (guarded w j (rename (current_of names) e) (Symbol o))))
          (p ∙ current-at names y known)) v)
          (λ q. record { current = u q; control = w; next = add-one new q }))

    -- a test
    module _ (k : Kind) (acts : action_at s at ≡ A.Test k) where
      tests : At j (Check k e) ≡ place_of n K r i rec
      tests = by_form (Test k e) (test-is h.instruction k (sym h.acts ∙ acts) ∙ ap {B = Instr} (Test k) tokens_are) j a

      pub test-room : (to m : ℕ) → to + length (records_bytes stmt_bytes (statements Bound c (place_of n K r i rec ∷ []))) ≤ m
          → to + (20 + expr_size e) ≤ m
      test-room to m l =
          omega (
            arith,
            place-room c (At j (Check k e)) (place_of n K r i rec) tests to m l,
            statement-size Bound c j n K r i (not (ltb r K)) (Test k e) (last_copy r K),
          )

      pub test-written : {out : List ℕ} {to : ℕ} {out' : List ℕ} {to' : ℕ}
          → Wrote out to (record_bytes stmt_bytes (T.Test k j (guarded w j (rename (current_of names) e) (Const 1)))) out' to'
          → Written c (place_of n K r i rec ∷ []) out to out' names (record { control = w; next = new; to = to' })
      test-written {out} {to} {out'} {to'} v =
          subst (λ p. Written c (p ∷ []) out to out' names (record { control = w; next = new; to = to' })) tests
          (written_one
          (wrote_as (ap (λ k. record_bytes stmt_bytes (T.Test k j (guarded w j (rename (current_of names) e) (Const 1)))) (same k)) v)
          refl)
        where
          same : (k : Kind) → k ≡ becomes Bound k
          same Assume = refl
          same Assert = refl
          same Bound = refl

    -- a jump
    module _ (t : ℕ) (acts : action_at s at ≡ A.Goto t) where
      jumps : At j (jump_in n K r i t e) ≡ place_of n K r i rec
      jumps =
          by_form (IfThenGoto t e) (goto-is h.instruction t (sym h.acts ∙ acts) ∙ ap {B = Instr} (IfThenGoto t) tokens_are) j a

      pub jump-room : (to m : ℕ) → to + length (records_bytes stmt_bytes (statements Bound c (place_of n K r i rec ∷ []))) ≤ m
          → to + length (records_bytes stmt_bytes (statements Bound c (At j (jump_in n K r i t e) ∷ []))) ≤ m
      jump-room to m l = subst (λ p. to + length (records_bytes stmt_bytes (statements Bound c (p ∷ []))) ≤ m) (sym jumps) l

      pub jump-written : {out : List ℕ} {to : ℕ} {out' names' : List ℕ} {f : Front}
          → Written c (At j (jump_in n K r i t e) ∷ []) out to out' names' f
          → Written c (place_of n K r i rec ∷ []) out to out' names' f
      jump-written {out} {to} {out'} {names'} {f} v = subst (λ p. Written c (p ∷ []) out to out' names' f) jumps v
