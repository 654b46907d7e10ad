-- The loops over a copy's instructions and over the copies: what is written and what is left make the whole, and the symbols are the
-- newest.
use Prim.Native.Nat.{ℕ, suc, ◌+◌, ◌-◌, ◌*◌, ◌≤◌, ◌<◌}
use native.Mathlib.Omega.{arith}
use native.Mathlib.Nat.{suc-mul, sub-zero, mul-le-mul_right}
use native.Mathlib.Numerals.{add-one}
use mathlib.Core.Path.{◌≡◌, refl, sym, ap, ap₂, ◌∙◌, subst}
use mathlib.Core.Bool.{true}
use mathlib.Core.List.{List, [], ◌∷◌, ◌++◌, append-nil}
use lib.ListN.{length, drop, get_or, length-drop, length-append, drop_of_length-le}
use Rattle.expr.specs.Lists.{All, drop-next}
use Rattle.expr.specs.Number.{Byte}
use Rattle.expr.specs.declared.token.Token.TheVariants.{Const, Symbol}
use Rattle.file.specs.Outcome.{Bound}
use Rattle.file.specs.File.{header_inputs, Body, Good, record_of, record_bytes, records_bytes}
use Rattle.file.proofs.EncodeLaws.{records-append}
use Rattle.file.specs.Shown.{is_good, listed}
use Rattle.table.specs.Table.{Instr, instr, read_table}
use Rattle.table.specs.Shown.{Ready}
use Rattle.table.specs.Run.{place_in}
use Rattle.table.proofs.Moves.{place_is}
use Rattle.trace.specs.Trace.{stmt_bytes}
use Rattle.trace.specs.Trace as T
use Rattle.write.specs.Splice.{Wrote}
use Rattle.write.specs.SpliceLaws.{wrote_as, Ahead, ahead_start, ahead_step, ahead_end, ahead_room}
use Rattle.unwind.specs.Places.{Set, Check, Jump, Exit, Place, At, end_of, action_in, copy_from, copies_from, places}
use Rattle.unwind.specs.Unwind.{Newest, guarded, statement, statements, advance}
use Rattle.unwind.specs.Unwind.{after}
use Rattle.unwind.proofs.UnwindLaws.{statements-append, copy_count}
use Rattle.unwind.proofs.SizeLaws.{exit_size}
use Rattle.unwind.specs.declared.copy.Front.{Front}
use Rattle.unwind.specs.Shown.{newest_of, place_of, Written}
use Rattle.unwind.proofs.Accepted as A

-- the newest symbols where the writing stands
abbrev pub newest_at : (names : List ℕ) → Front → Newest
newest_at names f = newest_of names f.control f.next

abbrev pub bytes_at : Newest → List Place → List ℕ
bytes_at c ps = records_bytes stmt_bytes (statements Bound c ps)

advance-next : (c : Newest) (p : Place) → (advance c p).next ≤ suc c.next
advance-next c (At j (Set s e)) = omega arith
advance-next c (At j (Check k e)) = omega arith
advance-next c (At j (Jump g e)) = omega arith
advance-next c (At j (Exit g)) = omega arith

after_next : (c : Newest) (ps : List Place) → (after c ps).next ≤ c.next + length ps
after_next c [] = omega arith
after_next c (p ∷ ps) = omega (arith, advance-next c p, after_next (advance c p) ps)

bytes-cons : (c : Newest) (p : Place) (ps : List Place) → bytes_at c (p ∷ ps) ≡ bytes_at c (p ∷ []) ++ bytes_at (advance c p) ps
bytes-cons c p ps = ap (λ bs. bs ++ bytes_at (advance c p) ps) (sym (append-nil (record_bytes stmt_bytes (statement Bound c p))))

places-append : (c : Newest) (ps qs : List Place) → bytes_at c (ps ++ qs) ≡ bytes_at c ps ++ bytes_at (after c ps) qs
places-append c ps qs =
    ap (records_bytes stmt_bytes) (statements-append Bound c ps qs)
    ∙ records-append stmt_bytes (statements Bound c ps) (statements Bound (after c ps) qs)

-- ---- one copy, from instruction i on

pub record InCopy (is : List Instr) (n K r : ℕ) (names₀ : List ℕ) (f₀ : Front) (out₀ names out : List ℕ) (i : ℕ) (g : Front) : Type 0 where
  pub inside : i ≤ length is
  pub wide : length names ≡ length names₀
  pub fresh : g.next ≤ f₀.next + i
  pub wrote : Ahead out g.to (bytes_at (newest_at names g) (copy_from n K r i (drop i is))) out₀ f₀.to
      (bytes_at (newest_at names₀ f₀) (copy_from n K r 0 is))
  pub newest : after (newest_at names g) (copy_from n K r i (drop i is)) ≡ after (newest_at names₀ f₀) (copy_from n K r 0 is)

module _ {is : List Instr} {n K r : ℕ} {names₀ : List ℕ} {f₀ : Front} {out₀ names out : List ℕ} {i : ℕ} {g : Front}
    (v : InCopy is n K r names₀ f₀ out₀ names out i g) where
  abbrev c : Newest
  c = newest_at names g

  module _ (x : Instr) (xs : List Instr) (here : drop i is ≡ x ∷ xs) where
    abbrev p : Place
    p = At (place_in n r i) (action_in n K r i x)

    abbrev rest : List Place
    rest = copy_from n K r (suc i) xs

    split : bytes_at c (copy_from n K r i (drop i is)) ≡ bytes_at c (p ∷ []) ++ bytes_at (advance c p) rest
    split = ap (λ ys. bytes_at c (copy_from n K r i ys)) here ∙ bytes-cons c p rest

    pub copy_room : f₀.to + length (bytes_at (newest_at names₀ f₀) (copy_from n K r 0 is)) ≤ length out₀
        → g.to + length (bytes_at c (p ∷ [])) ≤ length out
    copy_room l = omega (arith, ahead_room v.wrote l, ap length split ∙ length-append (bytes_at c (p ∷ [])) (bytes_at (advance c p) rest))

    pub copy_on : (out' names' : List ℕ) (g' : Front) → length names' ≡ length names → Written c (p ∷ []) out g.to out' names' g'
        → InCopy is n K r names₀ f₀ out₀ names' out' (i + 1) g'
    copy_on out' names' g' l w =
        let m : copy_from n K r (i + 1) (drop (i + 1) is) ≡ rest = ap₂ (copy_from n K r) (add-one i) (drop-next is i here) in
        let a : bytes_at (newest_at names' g') (copy_from n K r (i + 1) (drop (i + 1) is)) ≡ bytes_at (advance c p) rest =
        ap₂ bytes_at w.newest m in
        record {
          inside = omega (arith, ap length here, length-drop i is);
          wide = l ∙ v.wide;
          fresh = omega (arith, v.fresh, ap (λ c. c.next) w.newest, advance-next c p);
          wrote = ahead_step v.wrote (split ∙ ap (λ bs. bytes_at c (p ∷ []) ++ bs) (sym a)) w.wrote;
          newest = ap₂ after w.newest m ∙ sym (ap (λ ys. after c (copy_from n K r i ys)) here) ∙ v.newest;
        }

  -- after the last instruction, the exit
  module _ (q : length is ≡ n) (h : n ≤ i) where
    only : copy_from n K r i (drop i is) ≡ At (place_in n r n) (Exit (end_of n K)) ∷ []
    only =
        ap (copy_from n K r i) (drop_of_length-le is {i = i} (omega arith))
        ∙ ap (λ k. At (place_in n r k) (Exit (end_of n K)) ∷ []) (let z : i ≡ n = omega (arith, v.inside) in z)

    pub exit_room : f₀.to + length (bytes_at (newest_at names₀ f₀) (copy_from n K r 0 is)) ≤ length out₀ → g.to + 25 ≤ length out
    exit_room l =
        omega (
          arith,
          ahead_room v.wrote l,
          ap (λ ps. length (bytes_at c ps)) only,
          ap length (append-nil (record_bytes stmt_bytes (statement Bound c (At (place_in n r n) (Exit (end_of n K)))))),
          exit_size Bound c (place_in n r n) (end_of n K),
        )

    pub copy_end : (j goal : ℕ) → j ≡ r * (n + 1) + n → goal ≡ (K + 1) * (n + 1) → (out' : List ℕ) (to' : ℕ)
        → Wrote out g.to (record_bytes stmt_bytes (T.Assign j g.next (guarded g.control j (Const goal ∷ []) (Symbol g.control))))
        out' to'
        → Written (newest_at names₀ f₀) (copy_from n K r 0 is) out₀ f₀.to out' names
        (record { control = g.next; next = g.next + 1; to = to' })
    copy_end j goal a b out' to' w =
        let x : j ≡ place_in n r n = a ∙ place_is n n r in
        let y : goal ≡ end_of n K = b ∙ ap₂ (λ s t. s * t) (add-one K) (add-one n) in
        let z : Wrote out g.to (record_bytes stmt_bytes (statement Bound c (At (place_in n r n) (Exit (end_of n K))))) out' to'
        =
        wrote_as (ap (record_bytes stmt_bytes)
        (λ u. T.Assign (x u) g.next (guarded g.control (x u) (Const (y u) ∷ []) (Symbol g.control)))) w in
        record {
          wrote = ahead_end (ahead_step v.wrote (ap (bytes_at c) only) z) refl;
          newest =
              (λ u. record { current = (newest_at names g).current; control = g.next; next = add-one g.next u })
              ∙ sym (ap (after c) only) ∙ v.newest;
        }

-- ---- a table that is accepted

module _ (s off : List ℕ) (n : ℕ) (o : All Byte s) (ready : Ready s off n) {K r : ℕ} {names₀ : List ℕ} {f₀ : Front}
    {out₀ names out : List ℕ} {i : ℕ} {g : Front}
    (v : InCopy (listed (read_table s)) n K r names₀ f₀ out₀ names out i g) (l : header_inputs s ≤ length names₀) (h : i < n)
    (at : ℕ) (q : at ≡ get_or off i 0) where
  abbrev rec : Body Instr
  rec = record_of (instr (length names) n) (drop at s)

  at_hand : A.At s off n (length names) i
  at_hand = A.instr-here s off n o ready (length names) (omega (arith, v.wide)) i h

  good-here : rec ≡ Good at_hand.instruction
  good-here = ap (λ at. record_of (instr (length names) n) (drop at s)) q ∙ at_hand.good

  place_here : place_of n K r i rec ≡ At (place_in n r i) (action_in n K r i at_hand.instruction)
  place_here = ap (place_of n K r i) good-here

  pub readable : is_good rec ≡ true
  readable = ap is_good good-here

  pub room-here : f₀.to + length (bytes_at (newest_at names₀ f₀) (copy_from n K r 0 (listed (read_table s)))) ≤ length out₀
      → g.to + length (bytes_at (newest_at names g) (place_of n K r i rec ∷ [])) ≤ length out
  room-here k =
      subst (λ p. g.to + length (bytes_at (newest_at names g) (p ∷ [])) ≤ length out) (sym place_here)
      (copy_room v at_hand.instruction at_hand.after at_hand.is-here k)

  pub place-on : (out' names' : List ℕ) (g' : Front) → length names' ≡ length names
      → Written (newest_at names g) (place_of n K r i rec ∷ [])
      out g.to out' names' g'
      → InCopy (listed (read_table s)) n K r names₀ f₀ out₀ names' out' (i + 1) g'
  place-on out' names' g' k w =
      copy_on v at_hand.instruction at_hand.after at_hand.is-here out' names' g' k
      (subst (λ p. Written (newest_at names g) (p ∷ []) out g.to out' names' g') place_here w)

-- ---- all copies, from copy r on

pub record InCopies (is : List Instr) (n K : ℕ) (names₀ : List ℕ) (f₀ : Front) (out₀ names out : List ℕ) (r : ℕ) (g : Front) : Type 0 where
  pub few : r ≤ suc K
  pub wide : length names ≡ length names₀
  pub fresh : g.next ≤ f₀.next + r * (n + 1)
  pub wrote : Ahead out g.to (bytes_at (newest_at names g) (copies_from is K (suc K - r) r)) out₀ f₀.to
      (bytes_at (newest_at names₀ f₀) (places is K))

pub copies-start : (is : List Instr) (n K : ℕ) (names : List ℕ) (f : Front) (out : List ℕ) → InCopies is n K names f out names out 0 f
unfolding places
copies-start is n K names f out = record { few = omega arith; wide = refl; fresh = omega arith; wrote = rw sub-zero (ahead_start _ _ _) }

module _ {is : List Instr} {n K : ℕ} (q : length is ≡ n) {names₀ : List ℕ} {f₀ : Front} {out₀ names out : List ℕ} {r : ℕ} {g : Front}
    (v : InCopies is n K names₀ f₀ out₀ names out r g) where
  module _ (h : r ≤ K) where
    abbrev c₁ : Newest
    c₁ = newest_at names g

    copies_split : bytes_at c₁ (copies_from is K (suc K - r) r) ≡ bytes_at c₁ (copy_from n K r 0 is) ++ bytes_at
        (after c₁ (copy_from n K r 0 is)) (copies_from is K (suc K - (r + 1)) (r + 1))
    copies_split =
        ap (λ m. bytes_at c₁ (copies_from is K m r)) (let z : suc K - r ≡ suc (suc K - (r + 1)) = omega arith in z)
        ∙ ap₂ (λ m k. bytes_at c₁ (copy_from m K r 0 is ++ copies_from is K (suc K - (r + 1)) k)) q (sym (add-one r))
        ∙ places-append c₁ (copy_from n K r 0 is) (copies_from is K (suc K - (r + 1)) (r + 1))

    pub copies-room : f₀.to + length (bytes_at (newest_at names₀ f₀) (places is K)) ≤ length out₀
        → g.to + length (bytes_at c₁ (copy_from n K r 0 is)) ≤ length out
    copies-room l =
        omega (
          arith,
          ahead_room v.wrote l,
          ap length copies_split ∙ length-append (bytes_at c₁ (copy_from n K r 0 is))
              (bytes_at (after c₁ (copy_from n K r 0 is)) (copies_from is K (suc K - (r + 1)) (r + 1))),
        )

    pub copies-on : (out' names' : List ℕ) (g' : Front) → length names' ≡ length names
        → Written c₁ (copy_from n K r 0 is) out g.to out' names' g' → InCopies is n K names₀ f₀ out₀ names' out' (r + 1) g'
    copies-on out' names' g' l w = record {
      few = omega arith;
      wide = l ∙ v.wide;
      fresh =
          omega (
            arith,
            v.fresh,
            ap (λ c. c.next) w.newest,
            after_next c₁ (copy_from n K r 0 is),
            copy_count n K r 0 is,
            q,
            suc-mul r
                (n + 1),
            ap (λ x. x * (n + 1)) (add-one r),
          );
      wrote = ahead_step v.wrote
          (copies_split ∙ ap (λ c. bytes_at c₁ (copy_from n K r 0 is) ++ bytes_at c (copies_from is K (suc K - (r + 1)) (r + 1)))
          (sym w.newest)) w.wrote;
    }

  pub copies-end : K < r → Wrote out₀ f₀.to (bytes_at (newest_at names₀ f₀) (places is K)) out g.to
  copies-end h =
      ahead_end v.wrote (ap (λ m. bytes_at (newest_at names g) (copies_from is K m r)) (let z : suc K - r ≡ 0 = omega arith in z))

-- the symbols of a copy more still fit
pub fresh-fits : (n K r next first : ℕ) → r ≤ K → next ≤ first + r * (n + 1) → first + (K + 1) * (n + 1) ≤ 65535 → next + (n + 1) ≤ 65535
fresh-fits n K r next first h k l =
    let z : suc r ≤ K + 1 = omega arith in
    omega (arith, mul-le-mul_right (n + 1) z, suc-mul r (n + 1))
