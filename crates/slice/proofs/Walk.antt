-- The walk back: at k, what is kept of the statements from k on is their slice; what is needed is what that reads.
use Prim.Native.Nat.{ℕ, zero, suc, ◌+◌, ◌≤◌, ◌<◌}
use native.Mathlib.Omega.{arith}
use mathlib.Core.Path.{◌≡◌, refl, sym, ap, ap₂, ◌∙◌, subst}
use mathlib.Core.Bool.{Bool, true, false, cond, ◌||◌}
use mathlib.Core.List.{List, [], ◌∷◌, ◌++◌}
use lib.ListN.{length, drop, get_or, length-drop, length-append, drop_of_length-le}
use lib.Seq.{drop-drop, drop-cons, drop-set-lt, get_or-set_same, get_or-set_other}
use Rattle.std.proofs.lemmas.List.{get_or_push, get_or_append_left}
use Rattle.expr.specs.Lists.{All}
use Rattle.expr.specs.Number.{Byte}
use Rattle.file.specs.File.{Body, Good, Input, Accepted, Refused, record_bytes, records_bytes}
use Rattle.file.specs.Shown.{is_accepted, listed}
use Rattle.file.proofs.EncodeLaws.{encode-length}
use Rattle.trace.specs.Trace.{Stmt, Assign, Test, read_trace, stmt_bytes, reads_trace}
use Rattle.trace.specs.TraceLaws.{trace_short}
use Rattle.trace.specs.EncodeLaws.{encode-read}
use Rattle.slice.specs.declared.back.Kept.{Kept}
use Rattle.trace.specs.Asserts.{is_assert, has_assert}
use Rattle.slice.specs.Slice.{keep, slice}
use Rattle.slice.proofs.SliceLaws.{slice_shorter, slice_smaller}
use Rattle.slice.specs.Shown as Shown
use Rattle.slice.specs.Shown.{reads_in, keep_stmt, keep_in, asserts_in, Stepped, WalkedBack}

-- ---- the bytes of a trace

-- an accepted trace is its header and its records, so these are fewer than 65,536 bytes
pub records-small : (s : List ℕ) → All Byte s → is_accepted (read_trace s) ≡ true
    → length (records_bytes stmt_bytes (listed (read_trace s)))
    < 65536
records-small s o h = go (read_trace s) refl h
  where
    go : (i : Input Stmt) → read_trace s ≡ i → is_accepted i ≡ true → length (records_bytes stmt_bytes (listed (read_trace s))) < 65536
    go (Accepted head ts) e h =
        omega (
          arith,
          trace_short s head ts o e,
          ap length (encode-read s head ts o e),
          encode-length stmt_bytes head ts,
          ap (λ i. length (records_bytes stmt_bytes (listed i))) e,
        )
    go (Refused r f) e h = absurd (let z : ◌≡◌ {A = ℕ} 0 1 = cc in omega arith)

records-from : (k : ℕ) (ts : List Stmt) → length (records_bytes stmt_bytes (drop k ts)) ≤ length (records_bytes stmt_bytes ts)
records-from zero ts = omega arith
records-from (suc k) [] = omega arith
records-from (suc k) (t ∷ ts) = omega (arith, records-from k ts, length-append (record_bytes stmt_bytes t) (records_bytes stmt_bytes ts))

-- ---- the offsets that are left, the first of all

pub record Left (all rest : List ℕ) : Type 0 where
  pub few : length rest ≤ length all
  pub same : (i : ℕ) → i < length rest → get_or rest i 0 ≡ get_or all i 0

module _ {all rest : List ℕ} (l : Left all rest) (rest' : List ℕ) (x : ℕ) (e : rest ≡ rest' ++ x ∷ []) where
  pub one-less : suc (length rest') ≡ length rest
  one-less = omega (arith, ap length e, length-append rest' (x ∷ []))

  pub last_is : x ≡ get_or all (length rest') 0
  last_is =
      sym (ap (λ r. get_or r (length rest') 0) e ∙ get_or_push rest' x 0 (length rest') refl)
      ∙ l.same (length rest') (omega (arith, one-less))

  pub left-on : Left all rest'
  left-on = record {
    few = omega (arith, one-less, l.few);
    same = λ i h. sym (ap (λ r. get_or r i 0) e ∙ get_or_append_left rest' (x ∷ []) 0 i h) ∙ l.same i (omega (arith, one-less));
  }

-- ---- the loop

pub record Walking (ts : List Stmt) (kept₀ kept : List Bool) (needed : ℕ → Bool) (k : ℕ)
    (behind : Kept) : Type 0 where
  pub inside : k ≤ length ts
  pub kept-long : length kept ≡ length kept₀
  pub room : length ts ≤ length kept
  pub clear : (i : ℕ) → i < k → get_or kept i false ≡ false
  pub asserts : behind.asserts ≡ has_assert (drop k ts)
  pub count : behind.count ≡ length (slice (drop k ts))
  pub size : behind.size ≡ length (records_bytes stmt_bytes (slice (drop k ts)))
  pub reads : (x : ℕ) → needed x ≡ reads_trace x (slice (drop k ts))
  pub those : Shown.kept (drop k kept) (drop k ts) ≡ slice (drop k ts)

abbrev none : Kept
none = record { asserts = false; count = 0; size = 0 }

pub kept_none : (flags : List Bool) → Shown.kept flags [] ≡ []
kept_none [] = refl
kept_none (b ∷ flags) = refl

module _ (ts : List Stmt) (kept : List Bool) (needed : ℕ → Bool) (n : ℕ) (q : n ≡ length ts) where
  pub walking_start : n ≤ length kept → ((x : ℕ) → needed x ≡ false) → ((x : ℕ) → get_or kept x false ≡ false)
      → Walking ts kept kept needed n none
  unfolding slice
  walking_start l m f =
      let e : drop n ts ≡ [] = drop_of_length-le ts {i = n} (omega arith) in
      record {
        inside = omega arith;
        kept-long = refl;
        room = omega arith;
        clear = λ i h. f i;
        asserts = sym (ap has_assert e);
        count = sym (ap (λ ts. length (slice ts)) e);
        size = sym (ap (λ ts. length (records_bytes stmt_bytes (slice ts))) e);
        reads = λ x. m x ∙ sym (ap (λ ts. reads_trace x (slice ts)) e);
        those = ap (Shown.kept (drop n kept)) e ∙ kept_none (drop n kept) ∙ sym (ap slice e);
      }

keep_same : (t : Stmt) (ts us : List Stmt) (asserts : Bool) (needed : ℕ → Bool) → asserts ≡ has_assert ts
    → ((x : ℕ) → needed x ≡ reads_trace x us) → keep_stmt asserts needed t ≡ keep t ts us
keep_same (Assign p x e) ts us a n h r = r x
keep_same (Test k p e) ts us a n h r = ap (λ b. is_assert k || b) h

asserts-first : (t : Stmt) (ts : List Stmt) → has_assert (t ∷ ts) ≡ (asserts_in (Good t) || has_assert ts)
asserts-first (Assign p x e) ts = refl
asserts-first (Test k p e) ts = refl

reads_first : (x : ℕ) (t : Stmt) (ts : List Stmt) → reads_trace x (t ∷ ts) ≡ (reads_in x (Good t) || reads_trace x ts)
reads_first x (Assign p y e) ts = refl
reads_first x (Test k p e) ts = refl

module _ {ts : List Stmt} {kept₀ kept : List Bool} {needed : ℕ → Bool} {k : ℕ} {behind : Kept}
    (w : Walking ts kept₀ kept needed k behind) where
  pub few-behind : length ts ≤ 4096 → behind.count ≤ 4096
  few-behind l = omega (arith, w.count, slice_shorter (drop k ts), length-drop k ts)

  pub small-behind : length (records_bytes stmt_bytes ts) < 65536 → behind.size < 65536
  small-behind l = omega (arith, w.size, slice_smaller (drop k ts), records-from k ts)

  module _ {j : ℕ} (next : suc j ≡ k) {t : Stmt} {xs : List Stmt} (here : drop j ts ≡ t ∷ xs) {size : ℕ}
      (sized : length (record_bytes stmt_bytes t) ≡ size)
      {b : Body Stmt} (g : b ≡ Good t) {i : ℕ} (i-is : i ≡ j) {kept' : List Bool} {needed' : ℕ → Bool} {r : Kept}
      (went : Stepped b size i behind kept needed kept' needed' r)
      (kept-kept : length kept' ≡ length kept) where
    st : Stepped (Good t) size j behind kept needed kept' needed' r
    st =
        subst (λ i. Stepped (Good t) size i behind kept needed kept' needed' r) i-is
        (subst (λ b. Stepped b size i behind kept needed kept' needed' r) g went)

    behind-is : xs ≡ drop k ts
    behind-is = sym (sym (ap (λ j. drop j ts) (let e : j + 1 ≡ k = omega arith in e)) ∙ sym (drop-drop 1 j ts) ∙ ap (drop 1) here)

    flag : (flags : List Bool) → length flags ≡ length kept → (b : Bool) → get_or flags j false ≡ b → drop k flags ≡ drop k kept
        → Shown.kept (drop j flags) (t ∷ xs) ≡ cond b (t ∷ slice xs) (slice xs)
    flag flags l b e same =
        ap (λ fs. Shown.kept fs (t ∷ xs)) (drop-cons flags j false (omega (arith, w.inside, w.room))
        ∙ ap₂ {C = List Bool} (λ b fs. b ∷ fs) e (ap (λ j. drop j flags) next ∙ same))
        ∙ ap (λ us. cond b (t ∷ us) us) (ap (Shown.kept (drop k kept)) behind-is ∙ w.those ∙ ap slice (sym behind-is))

    on_as : (us : List Stmt) → slice (t ∷ xs) ≡ us → ((i : ℕ) → i < j → get_or kept' i false ≡ false) → r.count ≡ length us
        → r.size ≡ length (records_bytes stmt_bytes us)
        → ((x : ℕ) → needed' x ≡ reads_trace x us) → Shown.kept (drop j kept') (t ∷ xs) ≡ us
        → Walking ts kept₀ kept' needed' j r
    on_as us e f c z m q =
        let e : slice (drop j ts) ≡ us = ap slice here ∙ e in
        record {
          inside = omega (arith, w.inside);
          kept-long = kept-kept ∙ w.kept-long;
          room = omega (arith, w.room);
          clear = f;
          asserts =
              st.asserts ∙ ap (λ b. asserts_in (Good t) || b) (w.asserts ∙ ap has_assert (sym behind-is)) ∙ sym (asserts-first t xs)
              ∙ sym (ap has_assert here);
          count = c ∙ sym (ap length e);
          size = z ∙ sym (ap (λ us. length (records_bytes stmt_bytes us)) e);
          reads = λ x. m x ∙ sym (ap (reads_trace x) e);
          those = ap (Shown.kept (drop j kept')) here ∙ q ∙ sym e;
        }

    count-is : behind.count ≡ length (slice xs)
    count-is = w.count ∙ ap (λ us. length (slice us)) (sym behind-is)

    size_is : behind.size ≡ length (records_bytes stmt_bytes (slice xs))
    size_is = w.size ∙ ap (λ us. length (records_bytes stmt_bytes (slice us))) (sym behind-is)

    reads-is : (x : ℕ) → needed x ≡ reads_trace x (slice xs)
    reads-is x = w.reads x ∙ ap (λ us. reads_trace x (slice us)) (sym behind-is)

    kept-is : keep_in behind.asserts needed (Good t) ≡ keep t xs (slice xs)
    kept-is = keep_same t xs (slice xs) behind.asserts needed (w.asserts ∙ ap has_assert (sym behind-is)) reads-is

    sliced : (b : Bool) → keep_in behind.asserts needed (Good t) ≡ b → slice (t ∷ xs) ≡ cond b (t ∷ slice xs) (slice xs)
    unfolding slice
    sliced b e = ap (λ b. cond b (t ∷ slice xs) (slice xs)) (sym kept-is ∙ e)

    pub walk-on : Walking ts kept₀ kept' needed' j r
    walk-on = go (keep_in behind.asserts needed (Good t)) refl
      where
        go : (b : Bool) → keep_in behind.asserts needed (Good t) ≡ b → Walking ts kept₀ kept' needed' j r
        go true e =
            let (f, c, z, m) = st.keeps e in
            on_as (t ∷ slice xs) (sliced true e)
            (λ i l. ap (λ fs. get_or fs i false) f ∙ get_or-set_other kept j i true false (λ y. omega arith)
            ∙ w.clear i (omega arith))
            (omega (arith, c, count-is))
            (omega (arith, z, size_is, sized, length-append (record_bytes stmt_bytes t) (records_bytes stmt_bytes (slice xs))))
            (λ x. m x ∙ ap (λ b. reads_in x (Good t) || b) (reads-is x) ∙ sym (reads_first x t (slice xs)))
            (flag kept' kept-kept true (ap (λ fs. get_or fs j false) f
            ∙ get_or-set_same kept j true false (omega (arith, w.inside, w.room)))
            (ap (drop k) f ∙ drop-set-lt k kept j true (omega arith)))
        go false e =
            let (f, c, z, m) = st.drops e in
            on_as (slice xs) (sliced false e) (λ i l. ap (λ fs. get_or fs i false) f ∙ w.clear i (omega arith))
            (omega (arith, c, count-is))
            (z ∙ size_is)
            (λ x. ap (λ f. f x) m ∙ reads-is x)
            (flag kept' kept-kept false (ap (λ fs. get_or fs j false) f ∙ w.clear j (omega arith)) (ap (drop k) f))

pub walked : {ts : List Stmt} {kept₀ kept : List Bool} {needed : ℕ → Bool} {k : ℕ} {behind : Kept}
    → Walking ts kept₀ kept needed k behind → k ≤ 0 → WalkedBack ts kept needed behind
walked {ts} {kept₀} {kept} {needed} {k} {behind} w h = let v = subst (λ k. Walking ts kept₀ kept needed k behind)
    (let e : k ≡ 0 = omega arith in e) w in
    record { those = v.those; count = v.count; size = v.size; reads = v.reads }
