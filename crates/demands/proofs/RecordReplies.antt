-- One record, of a table and of a trace: the reader's reply to it is that of the first of its rows that holds; and what a trace's reader
-- knows after the statements before it.
use Prim.Native.Nat.{ℕ, suc, ◌+◌, ◌-◌, ◌≤◌, ◌<◌}
use native.Mathlib.Omega.{arith}
use native.Mathlib.Decide.{dec_lt}
use mathlib.Core.Path.{◌≡◌, refl, sym, ap, ap₂, ◌∙◌, subst, fun_ext}
use mathlib.Core.Bool.{Bool, true, false, ◌&&◌, ◌||◌, cond}
use mathlib.Core.Option.{some, none, Option}
use mathlib.Core.List.{List}
use lib.ListN.{length, take, drop, get_or, length-drop}
use lib.Seq.{drop-drop}
use lib.Dec.{eqb, leb, ltb}
use borrow.Author.Tests.{eqb-true, eqb-false, eq-eqb, ne_eqb, leb-true, leb-false, ltb-true, ltb-false}
use Rattle.expr.specs.declared.File.{File}
use Rattle.expr.specs.declared.File.TheVariants.{Table, Trace}
use Rattle.expr.specs.Lists.{and_both, or_false}
use Rattle.expr.specs.Number.{number_of}
use Rattle.expr.specs.declared.token.Token.{Token}
use Rattle.expr.specs.Expr.{below, Parsed, Whole, Breaks, parse}
use Rattle.file.specs.Outcome.{Kind, Assume, Assert, Bound}
use Rattle.file.specs.File.{header_version, header_inputs, header_count, head_of, AtRecord, AtToken, Body, Good, Bad, field, rule, holding}
use Rattle.file.specs.File.{frame, record_of}
use Rattle.file.proofs.FileLaws.{frame-there, record-framed, record_unframed, record-good, field_there, field_missing}
use Rattle.file.proofs.RecordLaws as RecordLaws
use Rattle.table.specs.Table as TableSpec
use Rattle.table.specs.Table.{Instr, instr}
use Rattle.table.specs.TableLaws as TableLaws
use Rattle.trace.specs.Trace as TraceSpec
use Rattle.trace.specs.Trace.{Stmt, Seen, at_first, see, stmt, tells_bound, kind_code}
use Rattle.trace.specs.Shown.{known_test}
use Rattle.trace.specs.TraceLaws.{no_assign}
use Rattle.trace.specs.TraceLaws as TraceLaws
use Rattle.demands.specs.Replies.{record_at, length_at, kind_at, number_at, expr_at, fields, fields_at, assigned_before, may_read}
use Rattle.demands.specs.Replies.{Framing, length_missing, passes_the_end, length_zero, unknown-kind, fields_missing, Ruling}
use Rattle.demands.specs.Replies.{symbol_not_below, target_past_the_end, symbol_of_an_input, symbol_too_high, symbol_not_greater}
use Rattle.demands.specs.Replies.{Wording, breaks}
use Rattle.demands.specs.Expression.{BreaksAt}
use Rattle.demands.proofs.ExpressionProof.{breaks-once, reading_whole, reading_breaks}

-- what a record is read as, by its rows
pub data Decided {A : Type 0} (F : File) (s : List ℕ) (k at : ℕ) : Body A → Type 0 where
  is-good : (a : A) → (Framing F s at → ⊥) → (Ruling F s k at → ⊥) → ((o : ℕ) → Wording F s k at o → ⊥) → Decided F s k at (Good a)
  is_framing : Framing F s at → Decided F s k at (Bad (AtRecord 5))
  is_ruling : (Framing F s at → ⊥) → Ruling F s k at → Decided F s k at (Bad (AtRecord 6))
  is_wording : (left : ℕ) → (Framing F s at → ⊥) → (Ruling F s k at → ⊥) → left ≤ length_at s at
      → Wording F s k at (at + (2 + length_at s at) - left) → Decided F s k at (Bad (AtToken left))

-- ---- frames

module _ (F : File) (s : List ℕ) (at : ℕ) where
  unframed_framing : frame (drop at s) ≡ 0 → Framing F s at
  unframed_framing e =
      elim (dec_lt (length s) (at + (2 + length_at s at))) [
        | yes h ↦ passes_the_end h
        | no h ↦ length_zero (sym (frame-there (drop at s) (omega (arith, length-drop at s))) ∙ e)
      ]

  -- a record that is no framing refusal is there
  pub framing_inside : (Framing F s at → ⊥) → (at + (2 + length_at s at) ≤ length s) × (frame (drop at s) ≡ length_at s at)
  framing_inside h = (inside, frame-there (drop at s) (omega (arith, length-drop at s, inside)))
    where
      inside : at + (2 + length_at s at) ≤ length s
      inside = elim (dec_lt (length s) (at + (2 + length_at s at))) [ yes l ↦ absurd (h (passes_the_end l)) | no l ↦ omega arith ]

-- ---- the bytes of a record that is there

abbrev body_at : List ℕ → (at : ℕ) → List ℕ
body_at s at = take (frame (drop at s)) (drop 2 (drop at s))

-- any reader will do
abbrev anything : List ℕ → Body (Unit {0})
anything bs = Good tt

module _ (s : List ℕ) (at : ℕ) (there : frame (drop at s) ≡ 0 → ⊥) where
  cut_out : record_of anything (drop at s) ≡ Good tt
  cut_out = record-framed anything (drop at s) there

  length-is : length (body_at s at) ≡ length_at s at
  length-is = RecordLaws.body-length anything s at tt cut_out

  body_some : 0 < length (body_at s at)
  body_some = RecordLaws.body_some anything s at tt cut_out

  body-inside : at + (2 + length_at s at) ≤ length s
  body-inside = RecordLaws.body-inside anything s at tt cut_out

  kind-is : get_or (body_at s at) 0 0 ≡ kind_at s at
  kind-is = RecordLaws.body-kind anything s at tt cut_out

  kind-known : (v : ℕ) → eqb (kind_at s at) v ≡ true → get_or (body_at s at) 0 0 ≡ v
  kind-known v e = kind-is ∙ eqb-true (kind_at s at) v e

  kind-other : (v : ℕ) → eqb (kind_at s at) v ≡ false → get_or (body_at s at) 0 0 ≡ v → ⊥
  kind-other v e q = eqb-false (kind_at s at) v e (sym kind-is ∙ q)

  -- the length after the kind
  rest-length : length (drop 1 (body_at s at)) + 1 ≡ length_at s at
  rest-length = omega (arith, length-drop 1 (body_at s at), length-is, body_some)

  number_is : (i w : ℕ) → i + w ≤ length_at s at → number_of w (drop i (body_at s at)) ≡ number_at s at i w
  number_is i w h = RecordLaws.body-number anything s at tt cut_out i w (omega (arith, length-is))

  expr-is : (m : ℕ) → drop m (body_at s at) ≡ expr_at s at m
  expr-is m =
      RecordLaws.body-part anything s at tt cut_out m
      ∙ ap (λ l. take l (drop (at + (2 + m)) s)) (let e : 2 + length_at s at - (2 + m) ≡ length_at s at - m = omega arith in e)

-- ---- a record by its fields

-- a field is missing, or it is there
field_cases : {A : Type 0} (P : Body A → Type 0) (w : ℕ) (bs : List ℕ) (f : ℕ → List ℕ → Body A)
    → (length bs < w → P (Bad (AtRecord 5))) → (w ≤ length bs → P (f (number_of w bs) (drop w bs))) → P (field w bs f)
field_cases P w bs f short long =
    elim (dec_lt (length bs) w) [
      | yes h ↦ subst P (sym (field_missing w bs f h)) (short h)
      | no h ↦ subst P (sym (field_there w bs f (omega arith))) (long (omega arith))
    ]

fields-known : (F : File) (s : List ℕ) (at v : ℕ) → eqb (kind_at s at) v ≡ true → fields_at F s at ≡ fields F (header_version s) v
fields-known F s at v e = ap (fields F (header_version s)) (eqb-true (kind_at s at) v e)

module _ (F : File) (s : List ℕ) (k at : ℕ) (there : frame (drop at s) ≡ 0 → ⊥) where
  -- with m bytes of kind and fields, all of them there
  module _ (m : ℕ) (e : fields_at F s at ≡ some m) (h : m ≤ length_at s at) where
    no_framing : Framing F s at → ⊥
    no_framing (length_missing l) = omega (arith, body-inside s at there)
    no_framing (passes_the_end l) = omega (arith, body-inside s at there)
    no_framing (length_zero l) = omega (arith, body_some s at there, length-is s at there)
    no_framing (unknown-kind l) = let q = sym e ∙ l in let z : ◌≡◌ {A = ℕ} 0 1 = cc in omega arith
    no_framing (fields_missing n l p) = let q = sym e ∙ l in let z : m ≡ n = cc in omega arith

    worded : {A : Type 0} (f : List Token → A) → (Ruling F s k at → ⊥)
        → Decided F s k at (holding f (parse F (may_read F s k) (expr_at s at m)))
    worded {A} f r = go (parse F (may_read F s k) (expr_at s at m)) refl
      where
        right : (e : List Token) → parse F (may_read F s k) (expr_at s at m) ≡ Whole e → (o : ℕ) → Wording F s k at o → ⊥
        right t q p (breaks n i l b z) =
            let u = sym e ∙ l in
            let z : n ≡ m = cc in
            reading_whole F (may_read F s k) (expr_at s at m) t q i (subst (λ n. BreaksAt F (may_read F s k) (expr_at s at n) i) z b)

        wrong : (rest : List ℕ) → parse F (may_read F s k) (expr_at s at m) ≡ Breaks rest
            → Decided {A = A} F s k at (Bad (AtToken (length rest)))
        wrong rest q =
            let b = reading_breaks F (may_read F s k) (expr_at s at m) rest q in
            let i = b.0 in
            let left : length rest ≡ length (expr_at s at m) - i = ap length b.2 ∙ length-drop i (expr_at s at m) in
            let long : length (expr_at s at m) ≡ length_at s at - m = sym (ap length (expr-is s at there m)) ∙ length-drop m (body_at s at)
            ∙ ap (λ l. l - m) (length-is s at there) in
            is_wording (length rest) no_framing r (omega arith) (breaks m i e b.1 (omega (arith, b.3)))

        go : (p : Parsed) → parse F (may_read F s k) (expr_at s at m) ≡ p → Decided F s k at (holding f p)
        go (Whole t) q = is-good (f t) no_framing r (right t q)
        go (Breaks rest) q = wrong rest q

    ruled : {A : Type 0} (f : List Token → A) (b : Bool) → (b ≡ true → Ruling F s k at → ⊥) → (b ≡ false → Ruling F s k at)
        → Decided F s k at (rule b (holding f (parse F (may_read F s k) (expr_at s at m))))
    ruled f true r q = worded f (r refl)
    ruled f false r q = is_ruling no_framing (q refl)

-- a record's expression breaks its rules at one byte
pub wording_once : (F : File) (s : List ℕ) (k at o p : ℕ) → Wording F s k at o → Wording F s k at p → o ≡ p
wording_once F s k at o p (breaks m i e b z) (breaks n j f c y) =
    let u = sym f ∙ e in
    let q : n ≡ m = cc in
    let here = subst (λ n. BreaksAt F (may_read F s k) (expr_at s at n) j) q c in
    let same : i ≡ j = breaks-once F (may_read F s k) (expr_at s at m) i j b here in
    omega arith

-- a record that is not there, or that is read by what is in it
decided_by-frame : {A : Type 0} (F : File) (s : List ℕ) (k at : ℕ) (one : List ℕ → Body A)
    → ((frame (drop at s) ≡ 0 → ⊥) → Decided F s k at (one (body_at s at))) → Decided F s k at (record_of one (drop at s))
decided_by-frame F s k at one h = go (eqb (frame (drop at s)) 0) refl
  where
    go : (x : Bool) → eqb (frame (drop at s)) 0 ≡ x → Decided F s k at (record_of one (drop at s))
    go true e =
        let z = eqb-true (frame (drop at s)) 0 e in
        subst (Decided F s k at) (sym (record_unframed one (drop at s) z)) (is_framing (unframed_framing F s at z))
    go false e =
        let z = eqb-false (frame (drop at s)) 0 e in
        subst (Decided F s k at) (sym (record-framed one (drop at s) z)) (h z)

-- ---- a record of a table

module _ (s : List ℕ) (k at : ℕ) where
  abbrev TableRow : Body Instr → Type 0
  TableRow x = Decided Table s k at x

  abbrev S : ℕ
  S = header_inputs s

  abbrev n : ℕ
  n = header_count s

  abbrev instr_bytes : List ℕ
  instr_bytes = body_at s at

  -- the rule of an assigned symbol, and of a target; a test has none
  symbol-ruled : (y : ℕ) → y ≡ number_at s at 1 1 → kind_at s at ≡ 1 → ltb y S ≡ true → Ruling Table s k at → ⊥
  symbol-ruled y q e h (symbol_not_below u l) = omega (arith, ltb-true y S h)
  symbol-ruled y q e h (target_past_the_end u l) = omega arith

  target_ruled : (y : ℕ) → y ≡ number_at s at 1 2 → kind_at s at ≡ 4 → leb y n ≡ true → Ruling Table s k at → ⊥
  target_ruled y q e h (symbol_not_below u l) = omega arith
  target_ruled y q e h (target_past_the_end u l) = omega (arith, leb-true y n h)

  instr_unruled : (kind_at s at ≡ 1 → ⊥) → (kind_at s at ≡ 4 → ⊥) → Ruling Table s k at → ⊥
  instr_unruled u v (symbol_not_below e l) = u e
  instr_unruled u v (target_past_the_end e l) = v e

  module _ (there : frame (drop at s) ≡ 0 → ⊥) where
    instr-assign_decided : eqb (kind_at s at) 1 ≡ true → Decided Table s k at (instr S n instr_bytes)
    instr-assign_decided e =
        let y = number_of 1 (drop 1 instr_bytes) in
        let kind : kind_at s at ≡ 1 = eqb-true (kind_at s at) 1 e in
        subst TableRow (sym (TableLaws.kind-assign S n instr_bytes (body_some s at there) (kind-known s at there 1 e)))
        (field_cases TableRow 1 (drop 1 instr_bytes) (TableSpec.assign S)
        (λ l. is_framing (fields_missing 2 (fields-known Table s at 1 e) (omega (arith, rest-length s at there))))
        (λ l.
        let h : 2 ≤ length_at s at = omega (arith, rest-length s at there) in
        let q : y ≡ number_at s at 1 1 = number_is s at there 1 1 h in
        subst (λ bs. TableRow (rule (ltb y S) (holding (TableSpec.Assign y) (parse Table (below S) bs))))
        (sym (drop-drop 1 1 instr_bytes ∙ expr-is s at there 2))
        (ruled Table s k at there 2 (fields-known Table s at 1 e) h (TableSpec.Assign y) (ltb y S) (symbol-ruled y q kind)
        (λ u. symbol_not_below kind (omega (arith, q, ltb-false y S u))))))

    instr_goto_decided : eqb (kind_at s at) 4 ≡ true → Decided Table s k at (instr S n instr_bytes)
    instr_goto_decided e =
        let y = number_of 2 (drop 1 instr_bytes) in
        let kind : kind_at s at ≡ 4 = eqb-true (kind_at s at) 4 e in
        subst TableRow (sym (TableLaws.kind_goto S n instr_bytes (body_some s at there) (kind-known s at there 4 e)))
        (field_cases TableRow 2 (drop 1 instr_bytes) (TableSpec.if_then_goto S n)
        (λ l. is_framing (fields_missing 3 (fields-known Table s at 4 e) (omega (arith, rest-length s at there))))
        (λ l.
        let h : 3 ≤ length_at s at = omega (arith, rest-length s at there) in
        let q : y ≡ number_at s at 1 2 = number_is s at there 1 2 h in
        subst (λ bs. TableRow (rule (leb y n) (holding (TableSpec.IfThenGoto y) (parse Table (below S) bs))))
        (sym (drop-drop 2 1 instr_bytes ∙ expr-is s at there 3))
        (ruled Table s k at there 3 (fields-known Table s at 4 e) h (TableSpec.IfThenGoto y) (leb y n) (target_ruled y q kind)
        (λ u. target_past_the_end kind (omega (arith, q, leb-false y n u))))))

    instr-test_decided : (v : ℕ) (t : Kind) → eqb (kind_at s at) v ≡ true → fields Table (header_version s) v ≡ some 1 → (v ≡ 1 → ⊥)
        → (v ≡ 4 → ⊥)
        → instr S n instr_bytes ≡ TableSpec.test S t (drop 1 instr_bytes) → Decided Table s k at (instr S n instr_bytes)
    instr-test_decided v t e f p r q =
        let kind : kind_at s at ≡ v = eqb-true (kind_at s at) v e in
        subst TableRow (sym (q ∙ ap (TableSpec.test S t) (expr-is s at there 1)))
        (worded Table s k at there 1 (fields-known Table s at v e ∙ f) (omega (arith, rest-length s at there)) (TableSpec.Test t)
        (instr_unruled (λ u. p (sym kind ∙ u)) (λ u. r (sym kind ∙ u))))

    instr_decided : Decided Table s k at (instr S n instr_bytes)
    instr_decided = go (eqb (kind_at s at) 1) refl (eqb (kind_at s at) 2) refl (eqb (kind_at s at) 3) refl (eqb (kind_at s at) 4) refl
      where
        go : (x : Bool) → eqb (kind_at s at) 1 ≡ x → (y : Bool) → eqb (kind_at s at) 2 ≡ y → (z : Bool) → eqb (kind_at s at) 3 ≡ z
            → (w : Bool) → eqb (kind_at s at) 4 ≡ w → Decided Table s k at (instr S n instr_bytes)
        go true e y f z g w h = instr-assign_decided e
        go false e true f z g w h =
            instr-test_decided 2 Assume f refl (λ q. omega arith) (λ q. omega arith)
            (TableLaws.kind-assume S n instr_bytes (body_some s at there) (kind-known s at there 2 f))
        go false e false f true g w h =
            instr-test_decided 3 Assert g refl (λ q. omega arith) (λ q. omega arith)
            (TableLaws.kind-assert S n instr_bytes (body_some s at there) (kind-known s at there 3 g))
        go false e false f false g true h = instr_goto_decided h
        go false e false f false g false h =
            let other = kind-other s at there in
            subst TableRow (sym (TableLaws.kind-unknown S n instr_bytes (body_some s at there) (other 1 e) (other 2 f) (other 3 g)
            (other 4 h)))
            (is_framing (unknown-kind (rw (e, f, g, h))))

  pub table_decided : Decided Table s k at (record_of (instr (header_inputs s) (header_count s)) (drop at s))
  table_decided = decided_by-frame Table s k at (instr S n) instr_decided

-- ---- what a trace's reader knows after k statements

-- the least symbol that may be assigned: S, or the one after the newest
pub data Least (s : List ℕ) (k least : ℕ) : Type 0 where
  least-input : least ≡ header_inputs s → Least s k least
  least-next : (i : ℕ) → i < k → kind_at s (record_at s i) ≡ 1 → least ≡ suc (number_at s (record_at s i) 3 2) → Least s k least

pub record Knows (s : List ℕ) (k : ℕ) (σ : Seen) : Type 0 where
  pub reads : σ.readable ≡ may_read Trace s k
  pub above : header_inputs s ≤ σ.least
  pub greater : (i : ℕ) → i < k → kind_at s (record_at s i) ≡ 1 → number_at s (record_at s i) 3 2 < σ.least
  pub newest : Least s k σ.least
  pub tells : σ.bounds ≡ tells_bound (header_version s)

pub knows_start : (s : List ℕ) → Knows s 0 (at_first (head_of s))
knows_start s = record {
  reads = fun_ext (λ x. sym (or_false (below (header_inputs s) x)));
  above = omega arith;
  greater = λ i h. absurd (omega arith);
  newest = least-input refl;
  tells = refl;
}

-- ---- a record of a trace

module _ (s : List ℕ) (k at : ℕ) (σ : Seen) (w : Knows s k σ) where
  abbrev TraceRow : Body Stmt → Type 0
  TraceRow x = Decided Trace s k at x

  abbrev top : ℕ
  top = header_inputs s + 4096

  abbrev stmt_bytes : List ℕ
  stmt_bytes = body_at s at

  -- the rule of an assigned symbol; a test has none
  stmt-ruled : (y : ℕ) → y ≡ number_at s at 3 2 → (leb σ.least y && ltb y top) ≡ true → Ruling Trace s k at → ⊥
  stmt-ruled y q h r = go (and_both (leb σ.least y) (ltb y top) h) r
    where
      go : (leb σ.least y ≡ true) × (ltb y top ≡ true) → Ruling Trace s k at → ⊥
      go h (symbol_of_an_input u l) = omega (arith, leb-true σ.least y h.0, w.above)
      go h (symbol_too_high u l) = omega (arith, ltb-true y top h.1)
      go h (symbol_not_greater i u l v p) = omega (arith, leb-true σ.least y h.0, w.greater i l v)

  stmt_against : (y : ℕ) → y ≡ number_at s at 3 2 → kind_at s at ≡ 1 → (leb σ.least y && ltb y top) ≡ false → Ruling Trace s k at
  stmt_against y q e h = go (leb σ.least y) refl h
    where
      low : Least s k σ.least → y < σ.least → Ruling Trace s k at
      low (least-input p) l = symbol_of_an_input {s = s} {k = k} {at = at} e (omega arith)
      low (least-next i u v p) l = symbol_not_greater {s = s} {k = k} {at = at} i e u v (omega arith)

      go : (x : Bool) → leb σ.least y ≡ x → (x && ltb y top) ≡ false → Ruling Trace s k at
      go true u v = symbol_too_high {s = s} {k = k} {at = at} e (omega (arith, ltb-false y top v))
      go false u v = low w.newest (leb-false σ.least y u)

  stmt_unruled : (kind_at s at ≡ 1 → ⊥) → Ruling Trace s k at → ⊥
  stmt_unruled u (symbol_of_an_input e l) = u e
  stmt_unruled u (symbol_too_high e l) = u e
  stmt_unruled u (symbol_not_greater i e l v p) = u e

  module _ (there : frame (drop at s) ≡ 0 → ⊥) where
    parse-is : (m : ℕ) (bs : List ℕ) → bs ≡ drop m stmt_bytes → parse Trace σ.readable bs ≡ parse Trace (may_read Trace s k)
        (expr_at s at m)
    parse-is m bs e = ap₂ (parse Trace) w.reads (e ∙ expr-is s at there m)

    stmt-assign_decided : eqb (kind_at s at) 1 ≡ true → Decided Trace s k at (stmt top σ stmt_bytes)
    stmt-assign_decided e =
        let p = number_of 2 (drop 1 stmt_bytes) in
        let r = drop 2 (drop 1 stmt_bytes) in
        let y = number_of 2 r in
        let kind : kind_at s at ≡ 1 = eqb-true (kind_at s at) 1 e in
        let rest = rest-length s at there in
        let less = length-drop 2 (drop 1 stmt_bytes) in
        subst TraceRow (sym (TraceLaws.kind-assign top σ stmt_bytes (body_some s at there) (kind-known s at there 1 e)))
        (field_cases TraceRow 2 (drop 1 stmt_bytes) (TraceSpec.assign_at top σ)
        (λ l. is_framing (fields_missing 5 (fields-known Trace s at 1 e) (omega arith)))
        (λ l. field_cases TraceRow 2 r (TraceSpec.assign top σ p)
        (λ u. is_framing (fields_missing 5 (fields-known Trace s at 1 e) (omega arith)))
        (λ u.
        let h : 5 ≤ length_at s at = omega arith in
        let q : y ≡ number_at s at 3 2 = ap (number_of 2) (drop-drop 2 1 stmt_bytes) ∙ number_is s at there 3 2 h in
        subst (λ x. TraceRow (rule (leb σ.least y && ltb y top) (holding (TraceSpec.Assign p y) x)))
        (sym (parse-is 5 (drop 2 r) (ap (drop 2) (drop-drop 2 1 stmt_bytes) ∙ drop-drop 2 3 stmt_bytes)))
        (ruled Trace s k at there 5 (fields-known Trace s at 1 e) h (TraceSpec.Assign p y) (leb σ.least y && ltb y top)
        (stmt-ruled y q) (stmt_against y q kind)))))

    stmt-test_decided : (v : ℕ) (t : Kind) → eqb (kind_at s at) v ≡ true → fields Trace (header_version s) v ≡ some 3 → (v ≡ 1 → ⊥)
        → stmt top σ stmt_bytes ≡ field 2 (drop 1 stmt_bytes) (TraceSpec.test_at σ t) → Decided Trace s k at (stmt top σ stmt_bytes)
    stmt-test_decided v t e f r q =
        let p = number_of 2 (drop 1 stmt_bytes) in
        let kind : kind_at s at ≡ v = eqb-true (kind_at s at) v e in
        subst TraceRow (sym q)
        (field_cases TraceRow 2 (drop 1 stmt_bytes) (TraceSpec.test_at σ t)
        (λ l. is_framing (fields_missing 3 (fields-known Trace s at v e ∙ f) (omega (arith, rest-length s at there))))
        (λ l.
        subst (λ x. TraceRow (holding (TraceSpec.Test t p) x)) (sym (parse-is 3 (drop 2 (drop 1 stmt_bytes)) (drop-drop 2 1 stmt_bytes)))
        (worded Trace s k at there 3 (fields-known Trace s at v e ∙ f) (omega (arith, rest-length s at there)) (TraceSpec.Test t p)
        (stmt_unruled (λ u. r (sym kind ∙ u))))))

    stmt-known : (v : ℕ) (t : Kind) → v ≡ kind_code t → TraceLaws.Told σ.bounds t → eqb (kind_at s at) v ≡ true
        → fields Trace (header_version s) v ≡ some 3 → (v ≡ 1 → ⊥) → Decided Trace s k at (stmt top σ stmt_bytes)
    stmt-known v t c told e f r =
        stmt-test_decided v t e f r (TraceLaws.kind-test top σ stmt_bytes (body_some s at there) t told (kind-known s at there v e ∙ c))

    stmt_decided : Decided Trace s k at (stmt top σ stmt_bytes)
    stmt_decided =
        go (eqb (kind_at s at) 1) refl (eqb (kind_at s at) 2) refl (eqb (kind_at s at) 3) refl (eqb (kind_at s at) 4) refl
        (tells_bound (header_version s)) refl
      where
        unknown : eqb (kind_at s at) 1 ≡ false → known_test σ.bounds (kind_at s at) ≡ false
            → fields_at Trace s at ≡ none → Decided Trace s k at (stmt top σ stmt_bytes)
        unknown e q n =
            subst TraceRow (sym (TraceLaws.kind-unknown top σ stmt_bytes (body_some s at there) (kind-other s at there 1 e)
            (ap (known_test σ.bounds) (kind-is s at there) ∙ q)))
            (is_framing (unknown-kind n))

        go : (x : Bool) → eqb (kind_at s at) 1 ≡ x → (y : Bool) → eqb (kind_at s at) 2 ≡ y → (z : Bool) → eqb (kind_at s at) 3 ≡ z
            → (u : Bool) → eqb (kind_at s at) 4 ≡ u → (b : Bool) → tells_bound (header_version s) ≡ b
            → Decided Trace s k at (stmt top σ stmt_bytes)
        go true e y f z g u h b t = stmt-assign_decided e
        go false e true f z g u h b t = stmt-known 2 Assume refl tt f refl (λ q. omega arith)
        go false e false f true g u h b t = stmt-known 3 Assert refl tt g refl (λ q. omega arith)
        go false e false f false g true h true t = stmt-known 4 Bound refl (w.tells ∙ t) h (rw t) (λ q. omega arith)
        go false e false f false g true h false t = unknown e (rw h (w.tells ∙ t)) (rw (e, f, g, t))
        go false e false f false g false h b t = unknown e (rw (h, f, g)) (rw (e, f, g, h) (other b t))
          where
            other : (b : Bool) → tells_bound (header_version s) ≡ b
                → cond {A = Option ℕ} (tells_bound (header_version s) && false) (some 3) none ≡ none
            other true t = rw t
            other false t = rw t

  pub trace_decided : Decided Trace s k at (record_of (stmt (header_inputs s + 4096) σ) (drop at s))
  trace_decided = decided_by-frame Trace s k at (stmt top σ) stmt_decided

-- ---- and after one statement more

or_exchange : (a b c : Bool) → (a || (b || c)) ≡ (b || (a || c))
or_exchange true true c = refl
or_exchange true false c = refl
or_exchange false true c = refl
or_exchange false false c = refl

module _ (s : List ℕ) (k : ℕ) (σ : Seen) (w : Knows s k σ) where
  abbrev at : ℕ
  at = record_at s k

  knows_assign : (p y : ℕ) (e : List Token) → kind_at s at ≡ 1 → y ≡ number_at s at 3 2 → σ.least ≤ y
      → Knows s (suc k) (see σ (TraceSpec.Assign p y e))
  knows_assign p y e q r l = record {
    reads = fun_ext (λ x.
        ap₂ (λ z f. eqb x z || f x) r w.reads
        ∙ or_exchange (eqb x (number_at s at 3 2)) (below (header_inputs s) x) (assigned_before s k x)
        ∙ sym (ap (λ b. below (header_inputs s) x || ((b && eqb x (number_at s at 3 2)) || assigned_before s k x))
        (eq-eqb (kind_at s at) 1 q)));
    above = omega (arith, w.above);
    greater = λ i h u. elim (dec_lt i k) [
      | yes m ↦ omega (arith, w.greater i m u)
      | no m ↦ let z : i ≡ k = omega arith in subst (λ j. number_at s (record_at s j) 3 2 < suc y) (sym z) (omega (arith, r))
    ];
    newest = least-next k (omega arith) q (ap suc r);
    tells = w.tells;
  }

  knows_test : (t : Kind) (p : ℕ) (e : List Token) → (kind_at s at ≡ 1 → ⊥) → Knows s (suc k) (see σ (TraceSpec.Test t p e))
  knows_test t p e q = record {
    reads = w.reads ∙ fun_ext (λ x.
        sym (ap (λ b. below (header_inputs s) x || ((b && eqb x (number_at s at 3 2)) || assigned_before s k x))
        (ne_eqb (kind_at s at) 1 q)));
    above = w.above;
    greater = λ i h u. elim (dec_lt i k) [
      | yes m ↦ w.greater i m u
      | no m ↦ absurd (let z : i ≡ k = omega arith in q (subst (λ j. kind_at s (record_at s j) ≡ 1) z u))
    ];
    newest = later w.newest;
    tells = w.tells;
  }
    where
      later : Least s k σ.least → Least s (suc k) σ.least
      later (least-input u) = least-input u
      later (least-next i u v z) = least-next i (omega arith) v z

  pub knows_next : (top : ℕ) (a : Stmt) → record_of (stmt top σ) (drop at s) ≡ Good a → Knows s (suc k) (see σ a)
  knows_next top a g = go a (TraceLaws.says top σ (body_at s at) (body_some s at found.0) a found.1)
    where
      found : (frame (drop at s) ≡ 0 → ⊥) × (stmt top σ (body_at s at) ≡ Good a)
      found = record-good (stmt top σ) (drop at s) a g

      kind : (v : ℕ) → get_or (body_at s at) 0 0 ≡ v → kind_at s at ≡ v
      kind v e = sym (kind-is s at found.0) ∙ e

      go : (a : Stmt) → TraceLaws.Says top σ (body_at s at) a → Knows s (suc k) (see σ a)
      go a (TraceLaws.says-assign e q l m n p) =
          knows_assign (number_of 2 (drop 1 (body_at s at))) (number_of 2 (drop 3 (body_at s at))) e (kind 1 q)
          (number_is s at found.0 3 2 (omega (arith, length-is s at found.0))) m
      go a (TraceLaws.says-test t e told q l p) =
          knows_test t (number_of 2 (drop 1 (body_at s at))) e (λ u. no_assign t (sym (kind (kind_code t) q) ∙ u))
