-- The laws of reading a trace: a record by its kind; what is read is well formed; where each statement stands.
use Rattle.std.specs.Prelude.{ℕ, zero, suc, ◌+◌, ◌≤◌, ◌<◌, ◌≡◌, Bool, true, false, cond, ◌&&◌, ◌||◌, length, take, drop, get_or, eqb, leb}
use Rattle.std.specs.Prelude.{ltb}
use Rattle.std.proofs.Common.{arith, sym, ap, ◌∙◌, subst, length-drop, length-take-le, drop-drop, eqb-true, eq-eqb, ne_eqb, le-leb}
use Rattle.std.proofs.Common.{leb-true, ltb-true, lt-ltb}
use Rattle.std.proofs.Math.Path.{refl}
use mathlib.Core.List.{List, [], ◌∷◌}
use Rattle.std.proofs.lemmas.Bool.{eqb-false}
use Rattle.expr.specs.declared.File.TheVariants.{Trace}
use Rattle.expr.specs.Lists.{All, and_both, or_cases}
use Rattle.expr.specs.Number.{Byte, number_of}
use Rattle.expr.specs.declared.token.Token.{Token}
use Rattle.expr.specs.Expr.{Whole, parse}
use Rattle.expr.proofs.ExprLaws.{parse-more}
use Rattle.file.specs.Outcome.{Kind, Assume, Assert, Bound}
use Rattle.file.specs.File.{Head, input_room, header_inputs, head_of, AtRecord, Body, Good, Bad, field, frame, Read, record_of, Accepted}
use Rattle.file.specs.File.{Refused}
use Rattle.file.specs.Shown.{offsets_from}
use Rattle.file.proofs.FileLaws.{holding-low, cond-low, framed, record-framed, record-good, next-record, records-chain, file-is}
use Rattle.file.specs.File.{Low}
use Rattle.file.proofs.FileLaws.{file-refused-low, field_there, field_good, rule-good, holding-good}
use Rattle.file.proofs.ReadingLaws.{short}
use Rattle.trace.specs.Trace.{Stmt, Assign, Test, Seen, see, assign, assign_at, test_at, stmt, stmts_from, stmts, is_trace, read_trace}
use Rattle.trace.specs.Trace.{at_first, kind_code}
use Rattle.trace.specs.Shown.{known_test, symbol_room, loose}

-- ---- a record by its kind

-- the kinds of test that are known: the bound's where it is told apart
abbrev pub Told : (bounds : Bool) → Kind → Type 0
Told b Assume = Unit {0}
Told b Assert = Unit {0}
Told b Bound = b ≡ true

module _ (top : ℕ) (σ : Seen) (body : List ℕ) (h : 0 < length body) where
  abbrev kind : ℕ
  kind = get_or body 0 0

  opened : (body : List ℕ) → 0 < length body → stmt top σ body ≡
      cond (eqb (get_or body 0 0) 1) (field 2 (drop 1 body) (assign_at top σ))
      (cond (eqb (get_or body 0 0) 2) (field 2 (drop 1 body) (test_at σ Assume))
      (cond (eqb (get_or body 0 0) 3) (field 2 (drop 1 body) (test_at σ Assert))
      (cond (σ.bounds && eqb (get_or body 0 0) 4) (field 2 (drop 1 body) (test_at σ Bound))
      (Bad (AtRecord 5)))))
  unfolding stmt
  opened [] h = absurd (omega arith)
  opened (k ∷ bs) h = refl

  pub kind-assign : get_or body 0 0 ≡ 1 → stmt top σ body ≡ field 2 (drop 1 body) (assign_at top σ)
  kind-assign e = opened body h ∙ rw (eq-eqb kind 1 e)

  pub kind-test : (k : Kind) → Told σ.bounds k → get_or body 0 0 ≡ kind_code k → stmt top σ body ≡ field 2 (drop 1 body) (test_at σ k)
  kind-test Assume t e = opened body h ∙ rw (ne_eqb kind 1 (λ q. omega arith), eq-eqb kind 2 e)
  kind-test Assert t e = opened body h ∙ rw (ne_eqb kind 1 (λ q. omega arith), ne_eqb kind 2 (λ q. omega arith), eq-eqb kind 3 e)
  kind-test Bound t e =
      opened body h
      ∙ rw (ne_eqb kind 1 (λ q. omega arith), ne_eqb kind 2 (λ q. omega arith), ne_eqb kind 3 (λ q. omega arith), t, eq-eqb kind 4 e)

  pub kind-unknown : (get_or body 0 0 ≡ 1 → ⊥) → known_test σ.bounds (get_or body 0 0) ≡ false → stmt top σ body ≡ Bad (AtRecord 5)
  kind-unknown a u = opened body h ∙ rw (ne_eqb kind 1 a) (go (eqb kind 2) refl (eqb kind 3) refl (eqb kind 4) refl σ.bounds u)
    where
      four : eqb (get_or body 0 0) 4 ≡ true → (m : ℕ) → (m ≡ 4 → ⊥) → eqb (get_or body 0 0) m ≡ true → ⊥
      four f m n e = n (sym (eqb-true (get_or body 0 0) m e) ∙ eqb-true (get_or body 0 0) 4 f)

      go : (x : Bool) → eqb kind 2 ≡ x → (y : Bool) → eqb kind 3 ≡ y → (z : Bool) → eqb kind 4 ≡ z → (b : Bool) → cond z b (x || y) ≡ false
          → cond x (field 2 (drop 1 body) (test_at σ Assume)) (cond y (field 2 (drop 1 body) (test_at σ Assert))
          (cond (b && z) (field 2 (drop 1 body) (test_at σ Bound)) (Bad (AtRecord 5)))) ≡ Bad (AtRecord 5)
      go true e y f true g b u = absurd (four g 2 (λ q. omega arith) e)
      go true e y f false g b u = absurd (let w : ◌≡◌ {A = ℕ} 0 1 = cc in omega arith)
      go false e true f true g b u = absurd (four g 3 (λ q. omega arith) f)
      go false e true f false g b u = absurd (let w : ◌≡◌ {A = ℕ} 0 1 = cc in omega arith)
      go false e false f true g true u = absurd (let w : ◌≡◌ {A = ℕ} 0 1 = cc in omega arith)
      go false e false f true g false u = refl
      go false e false f false g true u = refl
      go false e false f false g false u = refl

-- a code that is known is a kind's
pub known-kind : (σ : Seen) (code : ℕ) → known_test σ.bounds code ≡ true → (k : Kind) × Told σ.bounds k × (code ≡ kind_code k)
known-kind σ code u = go (eqb code 4) refl (eqb code 2) refl (eqb code 3) refl u
  where
    go : (z : Bool) → eqb code 4 ≡ z → (x : Bool) → eqb code 2 ≡ x → (y : Bool) → eqb code 3 ≡ y → cond z σ.bounds (x || y) ≡ true
        → (k : Kind) × Told σ.bounds k × (code ≡ kind_code k)
    go true g x e y f u = (Bound, u, eqb-true code 4 g)
    go false g true e y f u = (Assume, tt, eqb-true code 2 e)
    go false g false e true f u = (Assert, tt, eqb-true code 3 f)
    go false g false e false f u = absurd (let w : ◌≡◌ {A = ℕ} 0 1 = cc in omega arith)

-- no test has the code of an Assign
pub no_assign : (k : Kind) → kind_code k ≡ 1 → ⊥
no_assign Assume e = omega arith
no_assign Assert e = omega arith
no_assign Bound e = omega arith

pub stmt-low : (top : ℕ) (σ : Seen) (bs : List ℕ) → Low (stmt top σ bs)
unfolding stmt
stmt-low top σ [] = (omega arith, omega arith)
stmt-low top σ (k ∷ bs) =
    cond-low (eqb k 1) _ _
    (cond-low (leb 2 (length bs)) _ _
    (cond-low (leb 2 (length (drop 2 bs))) _ _
    (cond-low (leb σ.least (number_of 2 (drop 2 bs)) && ltb (number_of 2 (drop 2 bs)) top) _ _
    (holding-low (Assign (number_of 2 bs) (number_of 2 (drop 2 bs))) (parse Trace σ.readable (drop 2 (drop 2 bs)))) six) five) five)
    (cond-low (eqb k 2) _ _ (test Assume) (cond-low (eqb k 3) _ _ (test Assert) (cond-low (σ.bounds && eqb k 4) _ _ (test Bound) five)))
  where
    five : (5 ≤ 5) × (5 ≤ 7)
    five = omega arith

    six : (5 ≤ 6) × (6 ≤ 7)
    six = omega arith

    test : (k : Kind) → Low (field 2 bs (test_at σ k))
    test k = cond-low (leb 2 (length bs)) _ _ (holding-low (Test k (number_of 2 bs)) (parse Trace σ.readable (drop 2 bs))) five

-- ---- what a record that is read says

pub data Says (top : ℕ) (σ : Seen) (body : List ℕ) : Stmt → Type 0 where
  says-assign : (e : List Token) → get_or body 0 0 ≡ 1 → 5 ≤ length body → σ.least ≤ number_of 2 (drop 3 body)
      → number_of 2 (drop 3 body) < top
      → parse Trace σ.readable (drop 5 body) ≡ Whole e → Says top σ body (Assign (number_of 2 (drop 1 body)) (number_of 2 (drop 3 body)) e)
  says-test : (k : Kind) (e : List Token) → Told σ.bounds k → get_or body 0 0 ≡ kind_code k → 3 ≤ length body
      → parse Trace σ.readable (drop 3 body) ≡ Whole e → Says top σ body (Test k (number_of 2 (drop 1 body)) e)

module _ (top : ℕ) (σ : Seen) (body : List ℕ) (h : 0 < length body) where
  abbrev rest : List ℕ
  rest = drop 1 body

  set_says : (x : Stmt) → get_or body 0 0 ≡ 1 → field 2 (drop 1 body) (assign_at top σ) ≡ Good x → Says top σ body x
  set_says x e q =
      let p = number_of 2 (drop 1 body) in
      let a = field_good 2 (drop 1 body) (assign_at top σ) x q in
      let d : drop 2 (drop 1 body) ≡ drop 3 body = drop-drop 2 1 body in
      let b = field_good 2 (drop 3 body) (assign top σ p) x (ap (assign_at top σ p) (sym d) ∙ a.1) in
      let y = number_of 2 (drop 3 body) in
      let c = rule-good (leb σ.least y && ltb y top) _ x b.1 in
      let u = and_both (leb σ.least y) (ltb y top) c.0 in
      let w = holding-good (Assign p y) (parse Trace σ.readable (drop 2 (drop 3 body))) x c.1 in
      subst (Says top σ body) (sym w.is)
      (says-assign w.expr e (omega (arith, b.0, length-drop 3 body)) (leb-true σ.least y u.0) (ltb-true y top u.1)
      (ap (parse Trace σ.readable) (sym (drop-drop 2 3 body)) ∙ w.parsed))

  test-says : (k : Kind) → Told σ.bounds k → get_or body 0 0 ≡ kind_code k → (x : Stmt) → field 2 (drop 1 body) (test_at σ k) ≡ Good x
      → Says top σ body x
  test-says k t c x q =
      let a = field_good 2 (drop 1 body) (test_at σ k) x q in
      let w = holding-good (Test k (number_of 2 (drop 1 body))) (parse Trace σ.readable (drop 2 (drop 1 body))) x a.1 in
      subst (Says top σ body) (sym w.is)
      (says-test k w.expr t c (omega (arith, a.0, length-drop 1 body))
      (ap (parse Trace σ.readable) (sym (drop-drop 2 1 body)) ∙ w.parsed))

  pub says : (x : Stmt) → stmt top σ body ≡ Good x → Says top σ body x
  says x q = go (eqb (get_or body 0 0) 1) refl (known_test σ.bounds (get_or body 0 0)) refl
    where
      go : (a : Bool) → eqb (get_or body 0 0) 1 ≡ a → (b : Bool) → known_test σ.bounds (get_or body 0 0) ≡ b → Says top σ body x
      go true e b f = let c = eqb-true (get_or body 0 0) 1 e in set_says x c (sym (kind-assign top σ body h c) ∙ q)
      go false e true f =
          let k = known-kind σ (get_or body 0 0) f in
          test-says k.0 k.1 k.2 x (sym (kind-test top σ body h k.0 k.1 k.2) ∙ q)
      go false e false f =
          absurd (let z = sym q ∙ kind-unknown top σ body h (eqb-false (get_or body 0 0) 1 e) f in
          let y : ◌≡◌ {A = ℕ} 0 1 = cc in omega arith)

-- and back
pub said : (top : ℕ) (σ : Seen) (body : List ℕ) (x : Stmt) → Says top σ body x → stmt top σ body ≡ Good x
said top σ body x (says-assign e k l m n p) =
    kind-assign top σ body (omega arith) k
    ∙ field_there 2 (drop 1 body) (assign_at top σ) (omega (arith, length-drop 1 body))
    ∙ ap (assign_at top σ (number_of 2 (drop 1 body))) (drop-drop 2 1 body)
    ∙ field_there 2 (drop 3 body) (assign top σ (number_of 2 (drop 1 body))) (omega (arith, length-drop 3 body))
    ∙ rw (le-leb σ.least (number_of 2 (drop 3 body)) m, lt-ltb (number_of 2 (drop 3 body)) top n, drop-drop 2 3 body, p)
said top σ body x (says-test k e t c l p) =
    kind-test top σ body (omega arith) k t c ∙ field_there 2 (drop 1 body) (test_at σ k) (omega (arith, length-drop 1 body))
    ∙ rw (drop-drop 2 1 body, p)

-- ---- where more is allowed, a record holds the same statement

pub record Wider (top : ℕ) (σ : Seen) (top' : ℕ) (τ : Seen) : Type 0 where
  pub higher : top ≤ top'
  pub lower : τ.least ≤ σ.least
  pub reads : (x : ℕ) → σ.readable x ≡ true → τ.readable x ≡ true
  pub tells : σ.bounds ≡ true → τ.bounds ≡ true

pub record-wider : (top : ℕ) (σ : Seen) (top' : ℕ) (τ : Seen) → Wider top σ top' τ → (bs : List ℕ) (x : Stmt)
    → record_of (stmt top σ) bs ≡ Good x → record_of (stmt top' τ) bs ≡ Good x
record-wider top σ top' τ w bs x g =
    let k = record-good (stmt top σ) bs x g in
    let f = framed bs k.0 in
    let l = length-take-le (frame bs) (drop 2 bs) (omega (arith, f.inside, length-drop 2 bs)) in
    let body = take (frame bs) (drop 2 bs) in
    record-framed (stmt top' τ) bs k.0 ∙ said top' τ body x (go body x (says top σ body (omega (arith, l, k.0)) x k.1))
  where
    more : (bs : List ℕ) (e : List Token) → parse Trace σ.readable bs ≡ Whole e → parse Trace τ.readable bs ≡ Whole e
    more bs e q = parse-more Trace σ.readable τ.readable w.reads 0 0 bs e q

    told : (k : Kind) → Told σ.bounds k → Told τ.bounds k
    told Assume t = tt
    told Assert t = tt
    told Bound t = w.tells t

    go : (body : List ℕ) (x : Stmt) → Says top σ body x → Says top' τ body x
    go body x (says-assign e k l m n p) = says-assign e k l (omega (arith, w.lower)) (omega (arith, w.higher)) (more (drop 5 body) e p)
    go body x (says-test k e t c l p) = says-test k e (told k t) c l (more (drop 3 body) e p)

-- an assigned symbol is below the top
pub assigned-below : (top : ℕ) (σ : Seen) (bs : List ℕ) (p y : ℕ) (e : List Token) → record_of (stmt top σ) bs ≡ Good (Assign p y e)
    → y < top
assigned-below top σ bs p y e g =
    let k = record-good (stmt top σ) bs (Assign p y e) g in
    let f = framed bs k.0 in
    let l = length-take-le (frame bs) (drop 2 bs) (omega (arith, f.inside, length-drop 2 bs)) in
    go (Assign p y e) (says top σ (take (frame bs) (drop 2 bs)) (omega (arith, l, k.0)) (Assign p y e) k.1) refl
  where
    go : (x : Stmt) → Says top σ (take (frame bs) (drop 2 bs)) x → x ≡ Assign p y e → y < top
    go x (says-assign e' k l m n q) z = let w : number_of 2 (drop 3 (take (frame bs) (drop 2 bs))) ≡ y = cc in subst (λ v. v < top) w n
    go x (says-test k e' t c l q) z = absurd (let w : ◌≡◌ {A = ℕ} 0 1 = cc in omega arith)

-- ---- where a statement stands

-- inputs and assigned symbols have their places
pub symbol-room : input_room + 4096 ≤ symbol_room
unfolding input_room symbol_room
symbol-room = omega arith

pub symbols-few : symbol_room ≤ 65536
unfolding symbol_room
symbols-few = omega arith

-- what a statement allows to those after it is within what every accepted statement keeps to
pub wider-after : (top : ℕ) (σ : Seen) → Wider top σ symbol_room loose → (bs : List ℕ) (x : Stmt) → record_of (stmt top σ) bs ≡ Good x
    → Wider top (see σ x) symbol_room loose
wider-after top σ w bs (Assign p x e) g = record {
  higher = w.higher;
  lower = omega arith;
  reads =
      λ y q. or_cases (eqb y x) (σ.readable y)
      (λ z. lt-ltb y symbol_room (omega (arith, eqb-true y x z, assigned-below top σ bs p x e g, w.higher))) (w.reads y) q;
  tells = w.tells;
}
wider-after top σ w bs (Test k p e) g = w

pub stmt-at : (s : List ℕ) (S c at : ℕ) (σ : Seen) → Wider (S + 4096) σ symbol_room loose → (ts : List Stmt)
    → stmts_from S c σ (drop at s) ≡ Read ts
    → (i : ℕ) (x : Stmt) (xs : List Stmt) → drop i ts ≡ x ∷ xs
    → record_of (stmt symbol_room loose) (drop (get_or (offsets_from c at (drop at s)) i 0) s) ≡ Good x
unfolding offsets_from
stmt-at s S zero at σ w ts h i x xs d =
    absurd (let k = records-chain (stmt (S + 4096)) see s (λ σ a. Unit {0}) (λ σ l m a q. tt) 0 at σ ts h in
    omega (arith, k.1, ap length d, length-drop i ts))
stmt-at s S (suc c) at σ w ts h zero x xs d =
    let k = next-record (stmt (S + 4096)) see s at c σ ts h in
    let e : k.head ≡ x = (let z = sym k.is ∙ d in cc) in
    record-wider (S + 4096) σ symbol_room loose w (drop at s) x (k.good ∙ ap {B = Body Stmt} Good e)
stmt-at s S (suc c) at σ w ts h (suc i) x xs d =
    let k = next-record (stmt (S + 4096)) see s at c σ ts h in
    let l = 2 + frame (drop at s) in
    ap (λ bs. record_of (stmt symbol_room loose) (drop (get_or (offsets_from c (at + l) bs) i 0) s)) (drop-drop l at s)
    ∙ stmt-at s S c (at + l) (see σ k.head) (wider-after (S + 4096) σ w (drop at s) k.head k.good) k.tail k.on i x xs
    (sym (ap (drop (suc i)) k.is) ∙ d)

-- ---- the header

-- what an accepted file's header says
pub trace-head : (t : List ℕ) (head : Head) (ts : List Stmt) → read_trace t ≡ Accepted head ts → head_of t ≡ head
unfolding read_trace
trace-head t head ts q = (file-is is_trace 4096 stmts t head ts q).is

pub trace_inputs : (t : List ℕ) (head : Head) (ts : List Stmt) → read_trace t ≡ Accepted head ts → header_inputs t ≡ head.inputs
trace_inputs t head ts q = ap (λ h. h.inputs) (trace-head t head ts q)

-- a refused trace's reply is 1 to 7
pub trace_refused-low : (s : List ℕ) (r at : ℕ) → read_trace s ≡ Refused r at → (0 < r) × (r ≤ 7)
unfolding read_trace
trace_refused-low s =
    file-refused-low is_trace 4096 (λ head n. stmt (head.inputs + 4096)) see at_first
    (λ head n. stmt-low (head.inputs + 4096)) s

-- an accepted trace has no more bytes than its length field can say
pub trace_short : (s : List ℕ) (head : Head) (ts : List Stmt) → All Byte s → read_trace s ≡ Accepted head ts → length s < 65536
unfolding read_trace
trace_short s head ts o e = short is_trace 4096 s o (file-is is_trace 4096 stmts s head ts e).header
