-- The unwound trace: its statements in parts, their number, and that they are a well-formed trace, which is accepted when read.
-- The walk over the places keeps one invariant, `Known`: the newest symbols may be read, and are older than the next new one. A place
-- and its goals are within the end, an instruction's expression holds at most 16 words, and the guard puts one word below it.
use Rattle.std.specs.Prelude.{ℕ, zero, suc, ◌+◌, ◌-◌, ◌*◌, ◌≤◌, ◌<◌, ◌≡◌, refl, Bool, true, false, cond, ◌||◌, List, [], ◌∷◌, ◌++◌, length}
use Rattle.std.specs.Prelude.{eqb, leb, ltb}
use Rattle.std.proofs.Common.{arith, mul-le-mul_right, ap, ◌∙◌, length-append, eq-eqb, lt-ltb, ltb-true}
use Rattle.expr.specs.declared.File.TheVariants.{Table, Trace}
use Rattle.expr.specs.Lists.{All, or_left, or_right, all_append}
use Rattle.expr.specs.declared.word.Unary.TheVariants.{Zero}
use Rattle.expr.specs.declared.word.Binary.TheVariants.{Ule}
use Rattle.expr.specs.declared.token.Token.{Token}
use Rattle.expr.specs.declared.token.Token.TheVariants.{Const, Symbol, Un, Bin, Ite}
use Rattle.expr.specs.TokenLaws.{Holds}
use Rattle.expr.specs.Expr.{below, pops, fits}
use Rattle.expr.proofs.ExprLaws.{fits-is, fits_const, fits-symbol, fits-operator, ok-append, ok-rename}
use Rattle.expr.specs.Expr.{Ok}
use Rattle.expr.specs.Eval.{rename_token, rename}
use Rattle.file.specs.Outcome.{Kind, Assume, Assert, Bound}
use Rattle.file.specs.File.{Head, input_room, inputs_limit, Accepted}
use Rattle.file.proofs.FileLaws.{symbols_in_two-bytes}
use Rattle.table.specs.Table.{Instr, Assign, Test, IfThenGoto}
use Rattle.table.specs.Run.{place_in}
use Rattle.table.specs.TableLaws.{ExprOk as TableExprOk, InstrOk}
use Rattle.trace.specs.Trace.{Stmt, Seen, at_first as seenFirst, see, is_trace, tells_bound, trace_head, encode_trace}
use Rattle.trace.specs.Trace.{read_trace}
use Rattle.trace.specs.TraceLaws.{Told}
use Rattle.trace.specs.WellFormed.{ExprOk, StmtsOk}
use Rattle.trace.specs.EncodeLaws.{read-encode, room-written, trace_known, written-tells}
use Rattle.unwind.specs.Places.{Action, Set, Check, Jump, Exit, Place, At, end_of, jump_in, action_in, copy_from, copies_from, places}
use Rattle.unwind.specs.Unwind.{Newest, guarded, becomes, statement, makes_current, makes_control, advance, statements, at_first}
use Rattle.unwind.specs.Unwind.{after, opening, unwind}

-- ---- statements in parts

pub statements-append : (cut : Kind) (c : Newest) (ps qs : List Place)
    → statements cut c (ps ++ qs) ≡ statements cut c ps ++ statements cut (after c ps) qs
statements-append cut c [] qs = refl
statements-append cut c (p ∷ ps) qs = ap {B = List Stmt} (λ ts. statement cut c p ∷ ts) (statements-append cut (advance c p) ps qs)

-- ---- how many there are

pub copy_count : (n K r i : ℕ) (xs : List Instr) → length (copy_from n K r i xs) ≡ suc (length xs)
copy_count n K r i [] = refl
copy_count n K r i (x ∷ xs) = ap suc (copy_count n K r (suc i) xs)

pub copies-count : (is : List Instr) (K c r : ℕ) → length (copies_from is K c r) ≡ c * suc (length is)
copies-count is K zero r = omega arith
copies-count is K (suc c) r =
    length-append (copy_from (length is) K r 0 is) (copies_from is K c (suc r))
    ∙ (omega (arith, copy_count (length is) K r 0 is, copies-count is K c (suc r)))

pub places_count : (is : List Instr) (K : ℕ) → length (places is K) ≡ suc K * suc (length is)
unfolding places
places_count is K = copies-count is K (suc K) 0

pub statements-count : (cut : Kind) (c : Newest) (ps : List Place) → length (statements cut c ps) ≡ length ps
statements-count cut c [] = refl
statements-count cut c (p ∷ ps) = ap suc (statements-count cut (advance c p) ps)

pub unwind-count : (cut : Kind) (S : ℕ) (is : List Instr) (K : ℕ) → length (unwind cut S is K) ≡ 1 + suc K * suc (length is)
unfolding unwind
unwind-count cut S is K = omega (arith, statements-count cut (at_first S) (places is K), places_count is K)

-- ---- the places are well formed

-- for a table of S inputs; places are below the limit, goals at most there
abbrev pub ActionOk : (S limit : ℕ) → Action → Type 0
ActionOk S limit (Set s e) = (s < S) × TableExprOk S e
ActionOk S limit (Check k e) = TableExprOk S e
ActionOk S limit (Jump g e) = (g ≤ limit) × TableExprOk S e
ActionOk S limit (Exit g) = g ≤ limit

abbrev pub PlaceOk : (S limit : ℕ) → Place → Type 0
PlaceOk S limit (At j a) = (j < limit) × ActionOk S limit a

pub place_lt : (n K r i : ℕ) → r ≤ K → i ≤ n → place_in n r i < end_of n K
place_lt n K r i h k = omega (arith, mul-le-mul_right (suc n) h)

module _ (S n K : ℕ) where
  zero_ok : (e : List Token) → TableExprOk S e → TableExprOk S (e ++ Un Zero ∷ [])
  zero_ok e o = (
    ok-append (below S) 16 0 1 1 e (Un Zero ∷ []) o.0 (fits-operator (below S) (Un Zero) tt (omega arith) (omega arith), refl),
    all_append (Holds Table) e (Un Zero ∷ []) o.1 (tt, tt),
  )

  jump_ok : (r i t : ℕ) (e : List Token) → r ≤ K → t ≤ n → TableExprOk S e → ActionOk S (end_of n K) (jump_in n K r i t e)
  jump_ok r i t e h k o = go (leb t i) (ltb r K) refl
    where
      go : (back more : Bool) → ltb r K ≡ more
          → ActionOk S (end_of n K) (cond back (cond more (Jump (place_in n (suc r) t) e) (Check Bound (e ++ Un Zero ∷ [])))
          (Jump (place_in n r t) e))
      go false more q = (omega (arith, place_lt n K r t h k), o)
      go true false q = zero_ok e o
      go true true q = (omega (arith, place_lt n K (suc r) t (ltb-true r K q) k), o)

  action_ok : (r i : ℕ) (x : Instr) → r ≤ K → InstrOk S n x → ActionOk S (end_of n K) (action_in n K r i x)
  action_ok r i (Assign s e) h o = o
  action_ok r i (Test k e) h o = o
  action_ok r i (IfThenGoto t e) h o = jump_ok r i t e h o.0 o.1

  copy_ok : (r i : ℕ) (xs : List Instr) → r ≤ K → i + length xs ≡ n → All (InstrOk S n) xs
      → All (PlaceOk S (end_of n K)) (copy_from n K r i xs)
  copy_ok r i [] h l o = ((place_lt n K r i h (omega arith), (omega arith)), tt)
  copy_ok r i (x ∷ xs) h l o = ((place_lt n K r i h (omega arith), action_ok r i x h o.0), copy_ok r (suc i) xs h (omega arith) o.1)

copies-ok : (S : ℕ) (is : List Instr) (K c r : ℕ) → r + c ≡ suc K → All (InstrOk S (length is)) is
    → All (PlaceOk S (end_of (length is) K)) (copies_from is K c r)
copies-ok S is K zero r h o = tt
copies-ok S is K (suc c) r h o =
    all_append (PlaceOk S (end_of (length is) K)) (copy_from (length is) K r 0 is) (copies_from is K c (suc r))
    (copy_ok S (length is) K r 0 is (omega arith) (omega arith) o) (copies-ok S is K c (suc r) (omega arith) o)

pub places-ok : (S : ℕ) (is : List Instr) (K : ℕ) → All (InstrOk S (length is)) is → All (PlaceOk S (end_of (length is) K)) (places is K)
unfolding places
places-ok S is K o = copies-ok S is K (suc K) 0 (omega arith) o

-- ---- the expressions

-- symbols that may be read are renamed to ones that fit two bytes
rename-holds : (may : ℕ → Bool) (f : ℕ → ℕ) → ((s : ℕ) → may s ≡ true → f s < 65536) → (limit d z : ℕ) (e : List Token)
    → Ok may limit d z e → All (Holds Table) e
    → All (Holds Trace) (rename f e)
rename-holds may f h limit d z [] o a = tt
rename-holds may f h limit d z (t ∷ e) o a = (token t o.0 a.0, rename-holds may f h limit (suc (d - pops t)) z e o.1 a.1)
  where
    token : (t : Token) → fits may limit d t ≡ true → Holds Table t → Holds Trace (rename_token f t)
    token (Const n) q k = k
    token (Symbol s) q k = h s (fits-is may limit d (Symbol s) q).known
    token (Un o) q k = tt
    token (Bin o) q k = tt
    token Ite q k = tt

-- the body and the old word stand above the guard's word
guarded-ok : (may : ℕ → Bool) (W j : ℕ) (body : List Token) (old : Token) → may W ≡ true → W < 65536 → j < 65536
    → Ok may 17 1 2 body → All (Holds Trace) body → Ok may 17 2 3 (old ∷ []) → Holds Trace old → ExprOk may (guarded W j body old)
guarded-ok may W j body old known small place ok holds old_ok old-holds = (
  (
    fits-symbol may W (omega arith) known,
    (
      fits_const may j (omega arith),
      (
        fits-operator may (Bin Ule) tt (omega arith) (omega arith),
        ok-append may 17 1 2 1 body (old ∷ Ite ∷ []) ok
            (ok-append may 17 2 3 1 (old ∷ []) (Ite ∷ []) old_ok (fits-operator may Ite tt (omega arith) (omega arith), refl)),
      ),
    ),
  ),
  (small, ((omega arith), (tt, all_append (Holds Trace) body (old ∷ Ite ∷ []) holds (old-holds, (tt, tt))))),
)

-- ---- the newest symbols are known

pub record Known (S : ℕ) (c : Newest) (σ : Seen) : Type 0 where
  pub current-read : (s : ℕ) → below S s ≡ true → σ.readable (c.current s) ≡ true
  pub current-old : (s : ℕ) → below S s ≡ true → c.current s < c.next
  pub control-read : σ.readable c.control ≡ true
  pub control-old : c.control < c.next
  pub next_new : σ.least ≤ c.next

known-first : (head : Head) → Known head.inputs (at_first head.inputs) (see (seenFirst head) (opening head.inputs))
known-first head = let S = head.inputs in record {
  current-read = λ s q. or_right (eqb s S) (below S s) q;
  current-old = λ s q. omega (arith, ltb-true s S q);
  control-read = or_left (eqb S S) (below S S) (eq-eqb S S refl);
  control-old = omega arith;
  next_new = omega arith;
}

-- after the Assign of the next new symbol
abbrev learnt : Newest → Seen → Seen
learnt c σ = record { readable = λ y. eqb y c.next || σ.readable y; least = suc c.next; bounds = σ.bounds }

module _ (S : ℕ) (c : Newest) (σ : Seen) (k : Known S c σ) where
  known-current : (s : ℕ) → Known S (makes_current c s) (learnt c σ)
  known-current s = record {
    current-read = λ x q. read x (eqb x s) q;
    current-old = λ x q. old x (eqb x s) q;
    control-read = or_right (eqb c.control c.next) _ k.control-read;
    control-old = omega (arith, k.control-old);
    next_new = omega arith;
  }
    where
      read : (x : ℕ) (b : Bool) → below S x ≡ true → (learnt c σ).readable (cond b c.next (c.current x)) ≡ true
      read x true q = or_left (eqb c.next c.next) _ (eq-eqb c.next c.next refl)
      read x false q = or_right (eqb (c.current x) c.next) _ (k.current-read x q)

      old : (x : ℕ) (b : Bool) → below S x ≡ true → cond b c.next (c.current x) < suc c.next
      old x true q = omega arith
      old x false q = omega (arith, k.current-old x q)

  known-control : Known S (makes_control c) (learnt c σ)
  known-control = record {
    current-read = λ s q. or_right (eqb (c.current s) c.next) _ (k.current-read s q);
    current-old = λ s q. omega (arith, k.current-old s q);
    control-read = or_left (eqb c.next c.next) _ (eq-eqb c.next c.next refl);
    control-old = omega arith;
    next_new = omega arith;
  }

-- ---- the statements are well formed

becomes-told : (b : Bool) (cut : Kind) → Told b cut → (k : Kind) → Told b (becomes cut k)
becomes-told b cut h Assume = tt
becomes-told b cut h Assert = tt
becomes-told b cut h Bound = h

module _ (cut : Kind) (S limit : ℕ) (few : S + 4096 ≤ 65536) (short : limit < 65536) where
  module _ (c : Newest) (σ : Seen) (k : Known S c σ) (room : c.next < 65536) where
    control-small : c.control < 65536
    control-small = omega (arith, k.control-old)

    body_ok : (e : List Token) → TableExprOk S e → Ok σ.readable 17 1 2 (rename c.current e)
        × All (Holds Trace) (rename c.current e)
    body_ok e o = (
      ok-rename (below S) σ.readable c.current 1 16 0 1 e k.current-read o.0,
      rename-holds (below S) c.current (λ s q. omega (arith, k.current-old s q)) 16 0 1 e o.0 o.1,
    )

    set-ok : (j s : ℕ) (e : List Token) → j < limit → s < S → TableExprOk S e
        → ExprOk σ.readable (guarded c.control j (rename c.current e) (Symbol (c.current s)))
    set-ok j s e l h o =
        let b = body_ok e o in
        let q : below S s ≡ true = lt-ltb s S h in
        guarded-ok σ.readable c.control j (rename c.current e) (Symbol (c.current s)) k.control-read control-small
        (omega arith) b.0 b.1
        (fits-symbol σ.readable (c.current s) (omega arith) (k.current-read s q), refl) (omega (arith, k.current-old s q))

    check_ok : (j : ℕ) (e : List Token) → j < limit → TableExprOk S e
        → ExprOk σ.readable (guarded c.control j (rename c.current e) (Const 1))
    check_ok j e l o =
        let b = body_ok e o in
        guarded-ok σ.readable c.control j (rename c.current e) (Const 1) k.control-read control-small (omega arith) b.0
        b.1 (fits_const σ.readable 1 (omega arith), refl) (omega arith)

    jump-body-ok : (g : ℕ) (e : List Token) → g ≤ limit → TableExprOk S e
        → Ok σ.readable 17 1 2 (rename c.current e ++ Const g ∷ Symbol c.control ∷ Ite ∷ [])
        × All (Holds Trace) (rename c.current e ++ Const g ∷ Symbol c.control ∷ Ite ∷ [])
    jump-body-ok g e l o =
        let b = body_ok e o in (
          ok-append σ.readable 17 1 2 2 (rename c.current e) (Const g ∷ Symbol c.control ∷ Ite ∷ []) b.0 (
            fits_const σ.readable g (omega arith),
            (
              fits-symbol σ.readable c.control (omega arith) k.control-read,
              (fits-operator σ.readable Ite tt (omega arith) (omega arith), refl),
            ),
          ),
          all_append (Holds Trace) (rename c.current e) (Const g ∷ Symbol c.control ∷ Ite ∷ []) b.1
              ((omega arith), (control-small, (tt, tt))),
        )

    moves_ok : (j : ℕ) (body : List Token) → j < limit → Ok σ.readable 17 1 2 body → All (Holds Trace) body
        → ExprOk σ.readable (guarded c.control j body (Symbol c.control))
    moves_ok j body l o h =
        guarded-ok σ.readable c.control j body (Symbol c.control) k.control-read control-small (omega arith) o h
        (fits-symbol σ.readable c.control (omega arith) k.control-read, refl) control-small

    exit_body-ok : (g : ℕ) → g ≤ limit → Ok σ.readable 17 1 2 (Const g ∷ []) × All (Holds Trace) (Const g ∷ [])
    exit_body-ok g l = ((fits_const σ.readable g (omega arith), refl), ((omega arith), tt))

  pub statements-ok : (ps : List Place) (c : Newest) (σ : Seen) → Told σ.bounds cut → All (PlaceOk S limit) ps → Known S c σ
      → c.next + length ps ≤ S + 4096
      → StmtsOk S σ (statements cut c ps)
  statements-ok [] c σ told o k h = tt
  statements-ok (At j (Set s e) ∷ ps) c σ told o k h = (
    ((omega arith), k.next_new, (omega arith), set-ok c σ k (omega arith) j s e o.0.0 o.0.1.0 o.0.1.1),
    statements-ok ps (makes_current c s) (learnt c σ) told o.1 (known-current S c σ k s) (omega arith),
  )
  statements-ok (At j (Check x e) ∷ ps) c σ told o k h = (
    ((omega arith), becomes-told σ.bounds cut told x, check_ok c σ k (omega arith) j e o.0.0 o.0.1),
    statements-ok ps c σ told o.1 k (omega arith),
  )
  statements-ok (At j (Jump g e) ∷ ps) c σ told o k h =
      let b = jump-body-ok c σ k (omega arith) g e o.0.1.0 o.0.1.1 in (
        (
          (omega arith),
          k.next_new,
          (omega arith),
          moves_ok c σ k (omega arith) j (rename c.current e ++ Const g ∷ Symbol c.control ∷ Ite ∷ []) o.0.0 b.0 b.1,
        ),
        statements-ok ps (makes_control c) (learnt c σ) told o.1 (known-control S c σ k) (omega arith),
      )
  statements-ok (At j (Exit g) ∷ ps) c σ told o k h =
      let b = exit_body-ok c σ k (omega arith) g o.0.1 in (
        ((omega arith), k.next_new, (omega arith), moves_ok c σ k (omega arith) j (Const g ∷ []) o.0.0 b.0 b.1),
        statements-ok ps (makes_control c) (learnt c σ) told o.1 (known-control S c σ k) (omega arith),
      )

-- in every version that tells the kind of the bound's tests
pub unwind_well_formed : (cut : Kind) (head : Head) → Told (tells_bound head.version) cut → (is : List Instr) (K : ℕ)
    → All (InstrOk head.inputs (length is)) is → head.inputs ≤ input_room → length (unwind cut head.inputs is K) ≤ 4096
    → StmtsOk head.inputs (seenFirst head) (unwind cut head.inputs is K)
unfolding unwind
unwind_well_formed cut head told is K o few count =
    let S = head.inputs in
    let l : length (unwind cut head.inputs is K) ≡ 1 + end_of (length is) K = unwind-count cut S is K in
    let m : end_of (length is) K < 65536 = omega arith in (
      ((omega arith), (omega arith), (omega arith), ((fits_const (below S) 0 (omega arith), refl), ((omega arith), tt))),
      statements-ok cut S (end_of (length is) K) (omega (arith, symbols_in_two-bytes)) m (places is K) (at_first S)
          (see (seenFirst head) (opening S)) told (places-ok S is K o) (known-first head) (omega (arith, places_count is K)),
    )

pub unwind-ok : (S : ℕ) (is : List Instr) (K : ℕ) → All (InstrOk S (length is)) is → S ≤ input_room → length (unwind Bound S is K) ≤ 4096
    → StmtsOk S (seenFirst (trace_head S)) (unwind Bound S is K)
unwind-ok S is K o few count = unwind_well_formed Bound (trace_head S) (written-tells S) is K o few count

-- ---- read again

-- the trace of a well-formed table, within the limits, is accepted as what it is
pub unwind-read : (cut : Kind) (head : Head) → Told (tells_bound head.version) cut → is_trace head.version ≡ true
    → input_room ≤ inputs_limit head.version → (is : List Instr) (K : ℕ) → All (InstrOk head.inputs (length is)) is
    → head.inputs ≤ input_room → length (unwind cut head.inputs is K) ≤ 4096
    → length (encode_trace head (unwind cut head.inputs is K)) ≤ 65535
    → read_trace (encode_trace head (unwind cut head.inputs is K)) ≡ Accepted head (unwind cut head.inputs is K)
unwind-read cut head told known room is K o few count total =
    read-encode head (unwind cut head.inputs is K) known (omega arith) count (omega arith)
    (unwind_well_formed cut head told is K o few count)

pub unwind-accepted : (S : ℕ) (is : List Instr) (K : ℕ) → All (InstrOk S (length is)) is → S ≤ input_room
    → length (unwind Bound S is K) ≤ 4096
    → length (encode_trace (trace_head S) (unwind Bound S is K)) ≤ 65535
    → read_trace (encode_trace (trace_head S) (unwind Bound S is K)) ≡ Accepted (trace_head S) (unwind Bound S is K)
unwind-accepted S = unwind-read Bound (trace_head S) (written-tells S) (trace_known S) room-written
