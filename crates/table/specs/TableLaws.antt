-- The laws of reading a table: a record by its kind; what is read is well formed; where each instruction stands.
use Rattle.std.specs.Prelude.{ℕ, zero, suc, ◌+◌, ◌≤◌, ◌<◌, ◌≡◌, Bool, true, false, cond, length, take, drop, get_or, eqb, leb, ltb}
use Rattle.std.proofs.Common.{arith, sym, ap, ◌∙◌, subst, length-drop, length-take-le, drop-drop, eqb-true, eq-eqb, ne_eqb, le-leb}
use Rattle.std.proofs.Common.{leb-true, ltb-true, lt-ltb}
use Rattle.std.proofs.Math.Path.{refl}
use mathlib.Core.List.{List, [], ◌∷◌}
use Rattle.std.proofs.lemmas.Bool.{eqb-false}
use Rattle.expr.specs.declared.File.TheVariants.{Table}
use Rattle.expr.specs.Lists.{All, all_take, all_drop}
use Rattle.expr.specs.Number.{Byte, number_of}
use Rattle.expr.specs.declared.token.Token.{Token}
use Rattle.expr.specs.Expr.{below, Whole, parse}
use Rattle.expr.specs.TokenLaws.{Holds}
use Rattle.expr.proofs.ExprLaws.{parse-accepted, parse-more}
use Rattle.expr.specs.Expr.{Ok}
use Rattle.file.specs.Outcome.{Assume, Assert}
use Rattle.file.specs.File.{Head, input_room, header_version, header_size, header_inputs, header_count, AtRecord, Body, Good, Bad, field}
use Rattle.file.specs.File.{frame}
use Rattle.file.specs.File.{Read}
use Rattle.file.specs.File.{record_of, Accepted, Refused}
use Rattle.file.specs.Shown.{offsets_from}
use Rattle.file.proofs.FileLaws.{holding-low, cond-low, framed, record-framed, record-good, next-record, records-chain}
use Rattle.file.specs.File.{Low, Chain}
use Rattle.file.proofs.FileLaws.{inputs-room, header_is, file-is, file-refused-low, field_there, field_good, rule-good, holding-good}
use Rattle.table.specs.Table.{Instr, Assign, Test, IfThenGoto, assign, test, if_then_goto, instr, instrs_from, instrs}
use Rattle.table.specs.Table.{is_table, read_table}

-- ---- a record by its kind

module _ (S n : ℕ) (body : List ℕ) (h : 0 < length body) where
  abbrev kind : ℕ
  kind = get_or body 0 0

  opened : (body : List ℕ) → 0 < length body → instr S n body ≡
      cond (eqb (get_or body 0 0) 1) (field 1 (drop 1 body) (assign S))
      (cond (eqb (get_or body 0 0) 2) (test S Assume (drop 1 body))
      (cond (eqb (get_or body 0 0) 3) (test S Assert (drop 1 body))
      (cond (eqb (get_or body 0 0) 4) (field 2 (drop 1 body) (if_then_goto S n))
      (Bad (AtRecord 5)))))
  unfolding instr
  opened [] h = absurd (omega arith)
  opened (k ∷ bs) h = refl

  pub kind-assign : get_or body 0 0 ≡ 1 → instr S n body ≡ field 1 (drop 1 body) (assign S)
  kind-assign e = opened body h ∙ rw (eq-eqb kind 1 e)

  pub kind-assume : get_or body 0 0 ≡ 2 → instr S n body ≡ test S Assume (drop 1 body)
  kind-assume e = opened body h ∙ rw (ne_eqb kind 1 (λ q. omega arith), eq-eqb kind 2 e)

  pub kind-assert : get_or body 0 0 ≡ 3 → instr S n body ≡ test S Assert (drop 1 body)
  kind-assert e = opened body h ∙ rw (ne_eqb kind 1 (λ q. omega arith), ne_eqb kind 2 (λ q. omega arith), eq-eqb kind 3 e)

  pub kind_goto : get_or body 0 0 ≡ 4 → instr S n body ≡ field 2 (drop 1 body) (if_then_goto S n)
  kind_goto e =
      opened body h ∙ rw (
        ne_eqb kind 1 (λ q. omega arith),
        ne_eqb kind 2 (λ q. omega arith),
        ne_eqb kind 3 (λ q. omega arith),
        eq-eqb kind
            4 e,
      )

  pub kind-unknown : (get_or body 0 0 ≡ 1 → ⊥) → (get_or body 0 0 ≡ 2 → ⊥) → (get_or body 0 0 ≡ 3 → ⊥) → (get_or body 0 0 ≡ 4 → ⊥)
      → instr S n body ≡ Bad (AtRecord 5)
  kind-unknown a b c d = opened body h ∙ rw (ne_eqb kind 1 a, ne_eqb kind 2 b, ne_eqb kind 3 c, ne_eqb kind 4 d)

pub instr-low : (S n : ℕ) (bs : List ℕ) → Low (instr S n bs)
unfolding instr
instr-low S n [] = omega arith
instr-low S n (k ∷ bs) =
    cond-low (eqb k 1) _ _ (cond-low (leb 1 (length bs)) _ _
    (cond-low (ltb (number_of 1 bs) S) _ _ (holding-low (Assign (number_of 1 bs)) (parse Table (below S) (drop 1 bs))) six) five)
    (cond-low (eqb k 2) _ _ (holding-low (Test Assume) (parse Table (below S) bs))
    (cond-low (eqb k 3) _ _ (holding-low (Test Assert) (parse Table (below S) bs))
    (cond-low (eqb k 4) _ _ (cond-low (leb 2 (length bs)) _ _
    (cond-low (leb (number_of 2 bs) n) _ _ (holding-low (IfThenGoto (number_of 2 bs)) (parse Table (below S) (drop 2 bs))) six) five)
    five)))
  where
    five : (5 ≤ 5) × (5 ≤ 7)
    five = omega arith

    six : (5 ≤ 6) × (6 ≤ 7)
    six = omega arith

-- a refused table's reply is not 0
pub table-refused_positive : (b : List ℕ) (r at : ℕ) → read_table b ≡ Refused r at → 0 < r
unfolding read_table
table-refused_positive b r at e =
    (file-refused-low {St = Unit {0}} is_table 1024 (λ head n u. instr head.inputs n) (λ u a. u) (λ head. tt)
    (λ head n u. instr-low head.inputs n) b r at e).0

-- ---- what a record that is read says

pub data Says (S n : ℕ) (body : List ℕ) : Instr → Type 0 where
  says-assign : (e : List Token) → get_or body 0 0 ≡ 1 → 2 ≤ length body → number_of 1 (drop 1 body) < S
      → parse Table (below S) (drop 2 body) ≡ Whole e
      → Says S n body (Assign (number_of 1 (drop 1 body)) e)
  says-assume : (e : List Token) → get_or body 0 0 ≡ 2 → 1 ≤ length body → parse Table (below S) (drop 1 body) ≡ Whole e
      → Says S n body (Test Assume e)
  says-assert : (e : List Token) → get_or body 0 0 ≡ 3 → 1 ≤ length body → parse Table (below S) (drop 1 body) ≡ Whole e
      → Says S n body (Test Assert e)
  says_goto : (e : List Token) → get_or body 0 0 ≡ 4 → 3 ≤ length body → number_of 2 (drop 1 body) ≤ n
      → parse Table (below S) (drop 3 body) ≡ Whole e
      → Says S n body (IfThenGoto (number_of 2 (drop 1 body)) e)

module _ (S n : ℕ) (body : List ℕ) (h : 0 < length body) where
  set_says : (x : Instr) → get_or body 0 0 ≡ 1 → field 1 (drop 1 body) (assign S) ≡ Good x → Says S n body x
  set_says x e q =
      let a = field_good 1 (drop 1 body) (assign S) x q in
      let s = number_of 1 (drop 1 body) in
      let b = rule-good (ltb s S) _ x a.1 in
      let c = holding-good (Assign s) (parse Table (below S) (drop 1 (drop 1 body))) x b.1 in
      subst (Says S n body) (sym c.is)
      (says-assign c.expr e (omega (arith, a.0, length-drop 1 body)) (ltb-true s S b.0)
      (ap (parse Table (below S)) (sym (drop-drop 1 1 body)) ∙ c.parsed))

  goto_says : (x : Instr) → get_or body 0 0 ≡ 4 → field 2 (drop 1 body) (if_then_goto S n) ≡ Good x → Says S n body x
  goto_says x e q =
      let a = field_good 2 (drop 1 body) (if_then_goto S n) x q in
      let t = number_of 2 (drop 1 body) in
      let b = rule-good (leb t n) _ x a.1 in
      let c = holding-good (IfThenGoto t) (parse Table (below S) (drop 2 (drop 1 body))) x b.1 in
      subst (Says S n body) (sym c.is)
      (says_goto c.expr e (omega (arith, a.0, length-drop 1 body)) (leb-true t n b.0)
      (ap (parse Table (below S)) (sym (drop-drop 2 1 body)) ∙ c.parsed))

  pub says : (x : Instr) → instr S n body ≡ Good x → Says S n body x
  says x q = go (eqb (get_or body 0 0) 1) refl (eqb (get_or body 0 0) 2) refl (eqb (get_or body 0 0) 3) refl (eqb (get_or body 0 0) 4) refl
    where
      k : ℕ
      k = get_or body 0 0

      is : (v : ℕ) → eqb (get_or body 0 0) v ≡ true → get_or body 0 0 ≡ v
      is v e = eqb-true (get_or body 0 0) v e

      go : (a : Bool) → eqb (get_or body 0 0) 1 ≡ a → (b : Bool) → eqb (get_or body 0 0) 2 ≡ b → (c : Bool) → eqb (get_or body 0 0) 3 ≡ c
          → (d : Bool) → eqb (get_or body 0 0) 4 ≡ d → Says S n body x
      go true e b f c g d i = set_says x (is 1 e) (sym (kind-assign S n body h (is 1 e)) ∙ q)
      go false e true f c g d i =
          let u = holding-good (Test Assume) (parse Table (below S) (drop 1 body)) x (sym (kind-assume S n body h (is 2 f)) ∙ q) in
          subst (Says S n body) (sym u.is) (says-assume u.expr (is 2 f) h u.parsed)
      go false e false f true g d i =
          let u = holding-good (Test Assert) (parse Table (below S) (drop 1 body)) x (sym (kind-assert S n body h (is 3 g)) ∙ q) in
          subst (Says S n body) (sym u.is) (says-assert u.expr (is 3 g) h u.parsed)
      go false e false f false g true i = goto_says x (is 4 i) (sym (kind_goto S n body h (is 4 i)) ∙ q)
      go false e false f false g false i =
          absurd (
          let z = sym q ∙ kind-unknown S n body h (eqb-false (get_or body 0 0) 1 e) (eqb-false (get_or body 0 0) 2 f)
          (eqb-false (get_or body 0 0) 3 g) (eqb-false (get_or body 0 0) 4 i) in
          let y : ◌≡◌ {A = ℕ} 0 1 = cc in omega arith)

-- and back
pub said : (S n : ℕ) (body : List ℕ) (x : Instr) → Says S n body x → instr S n body ≡ Good x
said S n body x (says-assign e k l s p) =
    kind-assign S n body (omega arith) k
    ∙ field_there 1 (drop 1 body) (assign S) (omega (arith, length-drop 1 body))
    ∙ rw (lt-ltb (number_of 1 (drop 1 body)) S s, drop-drop 1 1 body, p)
said S n body x (says-assume e k l p) = kind-assume S n body l k ∙ rw p
said S n body x (says-assert e k l p) = kind-assert S n body l k ∙ rw p
said S n body x (says_goto e k l t p) =
    kind_goto S n body (omega arith) k
    ∙ field_there 2 (drop 1 body) (if_then_goto S n) (omega (arith, length-drop 1 body))
    ∙ rw (le-leb (number_of 2 (drop 1 body)) n t, drop-drop 2 1 body, p)

-- with more inputs it says the same
pub says-more : (S T n : ℕ) (body : List ℕ) (x : Instr) → S ≤ T → Says S n body x → Says T n body x
says-more S T n body x h w = go x w
  where
    wider : (s : ℕ) → below S s ≡ true → below T s ≡ true
    wider s q = lt-ltb s T (omega (arith, ltb-true s S q))

    more : (bs : List ℕ) (e : List Token) → parse Table (below S) bs ≡ Whole e → parse Table (below T) bs ≡ Whole e
    more bs e q = parse-more Table (below S) (below T) wider 0 0 bs e q

    go : (x : Instr) → Says S n body x → Says T n body x
    go x (says-assign e k l s p) = says-assign e k l (omega arith) (more (drop 2 body) e p)
    go x (says-assume e k l p) = says-assume e k l (more (drop 1 body) e p)
    go x (says-assert e k l p) = says-assert e k l (more (drop 1 body) e p)
    go x (says_goto e k l t p) = says_goto e k l t (more (drop 3 body) e p)

-- ---- what is read is well formed

abbrev pub ExprOk : (S : ℕ) → List Token → Type 0
ExprOk S e = Ok (below S) 16 0 1 e × All (Holds Table) e

abbrev pub InstrOk : (S n : ℕ) → Instr → Type 0
InstrOk S n (Assign s e) = (s < S) × ExprOk S e
InstrOk S n (Test k e) = ExprOk S e
InstrOk S n (IfThenGoto t e) = (t ≤ n) × ExprOk S e

instr-ok : (S n : ℕ) (body : List ℕ) (x : Instr) → All Byte body → instr S n body ≡ Good x → InstrOk S n x
unfolding instr
instr-ok S n [] x o h = absurd (let y : ◌≡◌ {A = ℕ} 0 1 = cc in omega arith)
instr-ok S n (b ∷ bs) x o h = go x (says S n (b ∷ bs) (omega arith) x h)
  where
    ok : (k : ℕ) (e : List Token) → parse Table (below S) (drop k (b ∷ bs)) ≡ Whole e → ExprOk S e
    ok k e q = let a = parse-accepted Table (below S) (drop k (b ∷ bs)) e (all_drop Byte k (b ∷ bs) o) q in (a.ok, a.holds)

    go : (x : Instr) → Says S n (b ∷ bs) x → InstrOk S n x
    go x (says-assign e k l s p) = (s, ok 2 e p)
    go x (says-assume e k l p) = ok 1 e p
    go x (says-assert e k l p) = ok 1 e p
    go x (says_goto e k l t p) = (t, ok 3 e p)

pub record IsTable (s : List ℕ) (S : ℕ) (is : List Instr) : Type 0 where
  pub inputs : S ≤ input_room
  pub count : length is ≡ header_count s
  pub few : length is ≤ 1024
  pub ok : All (InstrOk S (length is)) is

pub table-ok : (s : List ℕ) (head : Head) (is : List Instr) → All Byte s → read_table s ≡ Accepted head is → IsTable s head.inputs is
unfolding read_table
table-ok s head is o h =
    let f = file-is is_table 1024 instrs s head is h in
    let g = header_is is_table 1024 s f.header in
    let S = head.inputs in
    let n = header_count s in
    let c = records-chain {St = Unit {0}} (λ u. instr S n) (λ u a. u) s (λ u. InstrOk S n)
    (λ u l m a q. instr-ok S n (take l (drop m s)) a (all_take Byte l (drop m s) (all_drop Byte m s o)) q) n (header_size s) tt is f.read
    in
    let k : length is ≡ n = c.1 in
    record {
      inputs = omega (arith, g.inputs, f.inputs, inputs-room (header_version s));
      count = k;
      few = omega (arith, g.count);
      ok = subst (λ n. All (InstrOk S n) is)
          (sym k) (all n is c.0);
    }
  where
    all : (n : ℕ) (xs : List Instr)
        → Chain {St = Unit {0}} (λ u. instr head.inputs n) (λ u a. u) s (λ u. InstrOk head.inputs n) tt xs
        → All (InstrOk head.inputs n) xs
    all n [] c = tt
    all n (x ∷ xs) c = (c.0, all n xs c.1)

-- ---- where an instruction stands

pub instr-at : (s : List ℕ) (S n c at : ℕ) (is : List Instr) → instrs_from S n c (drop at s) ≡ Read is
    → (i : ℕ) (x : Instr) (xs : List Instr) → drop i is ≡ x ∷ xs
    → record_of (instr S n) (drop (get_or (offsets_from c at (drop at s)) i 0) s) ≡ Good x
unfolding offsets_from
instr-at s S n zero at is h i x xs d =
    absurd (let k = records-chain {St = Unit {0}} (λ u. instr S n) (λ u a. u) s (λ u a. Unit {0}) (λ u l m a q. tt) 0 at tt is h in
    omega (arith, k.1, ap length d, length-drop i is))
instr-at s S n (suc c) at is h zero x xs d =
    let k = next-record {St = Unit {0}} (λ u. instr S n) (λ u a. u) s at c tt is h in
    let e : k.head ≡ x = (let z = sym k.is ∙ d in cc) in
    k.good ∙ ap {B = Body Instr} Good e
instr-at s S n (suc c) at is h (suc i) x xs d =
    let k = next-record {St = Unit {0}} (λ u. instr S n) (λ u a. u) s at c tt is h in
    let l = 2 + frame (drop at s) in
    ap (λ bs. record_of (instr S n) (drop (get_or (offsets_from c (at + l) bs) i 0) s)) (drop-drop l at s)
    ∙ instr-at s S n c (at + l) k.tail k.on i x xs (sym (ap (drop (suc i)) k.is) ∙ d)

-- with more inputs a record holds the same instruction
pub record-more : (S T n : ℕ) (bs : List ℕ) (x : Instr) → S ≤ T → record_of (instr S n) bs ≡ Good x → record_of (instr T n) bs ≡ Good x
record-more S T n bs x h g =
    let k = record-good (instr S n) bs x g in
    let f = framed bs k.0 in
    let l = length-take-le (frame bs) (drop 2 bs) (omega (arith, f.inside, length-drop 2 bs)) in
    let body = take (frame bs) (drop 2 bs) in
    record-framed (instr T n) bs k.0 ∙ said T n body x (says-more S T n body x h (says S n body (omega (arith, l, k.0)) x k.1))

-- ---- the header

-- an accepted file's inputs are its header's
pub table-inputs : (t : List ℕ) (head : Head) (is : List Instr) → read_table t ≡ Accepted head is → header_inputs t ≡ head.inputs
unfolding read_table
table-inputs t head is q = (file-is is_table 1024 instrs t head is q).inputs
