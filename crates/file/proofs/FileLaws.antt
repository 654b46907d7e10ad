-- The laws of headers, frames and records: what an accepted file is, record after record from any offset.
use Prim.Native.Nat.{ℕ, zero, suc, ◌+◌, ◌-◌, ◌≤◌, ◌<◌}
use native.Mathlib.Omega.{arith}
use Rattle.std.proofs.Common.{add-one, ap₂, ◌∙◌, subst, length-drop, drop_of_length-le, length-take-le, take_all, take-suc, drop-drop}
use Rattle.std.proofs.Common.{drop-cons, get_or-drop, get_or-append-add}
use Rattle.std.proofs.Math.Decide.{dec_lt}
use Rattle.std.proofs.Math.Path.{◌≡◌, refl, sym, ap, fun_ext}
use Rattle.std.specs.Prelude.{Some, None, Err}
use Rattle.std.specs.Prelude.{Bool, ◌&&◌, length, take, drop, get_or, set, replicate}
use Rattle.std.proofs.Math.Bool.{true, false, cond}
use mathlib.Core.List.{List, [], ◌∷◌, ◌++◌}
use Rattle.std.proofs.lemmas.List.{length-replicate, get_or-replicate}
use Rattle.std.proofs.Math.ListN.{get_or-append, get_or-eq_default}
use Rattle.std.proofs.Math.Seq.{append_snoc}
use Rattle.std.proofs.lemmas.List.Edits.{sets, sets-eq}
use Rattle.std.proofs.Math.Dec.{leb, eqb}
use borrow.Author.Tests.{eqb-true, eqb-false, eq-eqb, ne_eqb, leb-true, leb-false, le-leb, lt-leb}
use Rattle.expr.specs.Lists.{and_both}
use Rattle.expr.specs.Number.{number_of, bytes_of}
use Rattle.expr.specs.NumberLaws.{number-written}
use Rattle.expr.specs.declared.token.Token.{Token}
use Rattle.expr.specs.declared.File.{File}
use Rattle.std.specs.Prelude.{Ok, Err}
use Rattle.expr.specs.Shown.{checked}
use Rattle.expr.proofs.ExprLaws.{breaks-inside}
use Rattle.expr.specs.Expr.{Parsed, Whole, Breaks, parse}
use Rattle.expr.specs.Eval.{env_of}
use Rattle.file.specs.Shown.{Fault, frame_in, reply_of, fault_at, fine, fault_in, fault_of, expr_fault, one_more, read_count, reading_of}
use Rattle.file.specs.Shown.{offsets_from, offsets_in}
use Rattle.file.specs.declared.Reason.{Reason}
use Rattle.file.specs.declared.Reason.TheVariants as R
use Rattle.file.specs.declared.Refusal as Code
use Rattle.file.specs.File.{Low, Chain, Head, head_size, input_room, inputs_limit, header_version, header_size, header_total, header_inputs}
use Rattle.file.specs.File.{header_count}
use Rattle.file.specs.File.{head_of, after_header, header_reply, header, Refusal, AtRecord, AtToken, Body, Good, Bad, field, rule}
use Rattle.file.specs.File.{holding, frame, Records, Read}
use Rattle.file.specs.File.{Stop, Accepted, Refused, record_of, before, on_record, records, finish, read_file}

-- ---- frames

module _ (bs : List ℕ) where
  pub frame_missing : length bs < 2 → frame bs ≡ 0
  unfolding frame
  frame_missing h = rw (lt-leb 2 (length bs) h)

  pub frame-long : 2 ≤ length bs → length bs < 2 + number_of 2 bs → frame bs ≡ 0
  unfolding frame
  frame-long h k = rw (le-leb 2 (length bs) h, lt-leb (2 + number_of 2 bs) (length bs) k)

  pub frame-there : 2 + number_of 2 bs ≤ length bs → frame bs ≡ number_of 2 bs
  unfolding frame
  frame-there h = rw (le-leb 2 (length bs) (omega arith), le-leb (2 + number_of 2 bs) (length bs) h)

  -- a record that is there
  pub record Framed : Type 0 where
    pub inside : 2 + frame bs ≤ length bs
    pub is : number_of 2 bs ≡ frame bs

  pub framed : (frame bs ≡ 0 → ⊥) → Framed
  framed h = go (leb 2 (length bs)) refl (leb (2 + number_of 2 bs) (length bs)) refl
    where
      go : (x : Bool) → leb 2 (length bs) ≡ x → (y : Bool) → leb (2 + number_of 2 bs) (length bs) ≡ y → Framed
      go false e y f = absurd (h (frame_missing (leb-false 2 (length bs) e)))
      go true e false f = absurd (h (frame-long (leb-true 2 (length bs) e) (leb-false (2 + number_of 2 bs) (length bs) f)))
      go true e true f =
          let l = leb-true (2 + number_of 2 bs) (length bs) f in
          let p = frame-there l in
          record { inside = omega arith; is = sym p }

  -- what the code's answer says of the length
  pub frame_none : None ≡ frame_in bs → frame bs ≡ 0
  frame_none e = go (eqb (frame bs) 0) refl e
    where
      go : (b : Bool) → eqb (frame bs) 0 ≡ b → None ≡ cond b None (Some (frame bs)) → frame bs ≡ 0
      go true q e = eqb-true (frame bs) 0 q
      go false q e = absurd (let z : ◌≡◌ {A = ℕ} 0 1 = cc in omega arith)

  pub frame-some : (len : ℕ) → Some len ≡ frame_in bs → (len ≡ frame bs) × (len ≡ 0 → ⊥)
  frame-some len e = go (eqb (frame bs) 0) refl e
    where
      go : (b : Bool) → eqb (frame bs) 0 ≡ b → Some len ≡ cond b None (Some (frame bs)) → (len ≡ frame bs) × (len ≡ 0 → ⊥)
      go true q e = absurd (let z : ◌≡◌ {A = ℕ} 0 1 = cc in omega arith)
      go false q e = let z : len ≡ frame bs = cc in (z, λ w. eqb-false (frame bs) 0 q (sym z ∙ w))

-- ---- one record, and those after it

module _ {A : Type 0} (one : List ℕ → Body A) (bs : List ℕ) where
  pub record-framed : (frame bs ≡ 0 → ⊥) → record_of one bs ≡ one (take (frame bs) (drop 2 bs))
  unfolding record_of
  record-framed h = ap (λ b. cond b (Bad (AtRecord 5)) (one (take (frame bs) (drop 2 bs)))) (ne_eqb (frame bs) 0 h)

  pub record_unframed : frame bs ≡ 0 → record_of one bs ≡ Bad (AtRecord 5)
  unfolding record_of
  record_unframed h = ap (λ b. cond b (Bad (AtRecord 5)) (one (take (frame bs) (drop 2 bs)))) (eq-eqb (frame bs) 0 h)

  -- a record that is read is there
  pub record-good : (a : A) → record_of one bs ≡ Good a → (frame bs ≡ 0 → ⊥) × (one (take (frame bs) (drop 2 bs)) ≡ Good a)
  record-good a h = go (eqb (frame bs) 0) refl
    where
      go : (x : Bool) → eqb (frame bs) 0 ≡ x → (frame bs ≡ 0 → ⊥) × (one (take (frame bs) (drop 2 bs)) ≡ Good a)
      go true e = absurd (let z = sym h ∙ record_unframed (eqb-true (frame bs) 0 e) in let y : ◌≡◌ {A = ℕ} 0 1 = cc in omega arith)
      go false e = (eqb-false (frame bs) 0 e, sym (record-framed (eqb-false (frame bs) 0 e)) ∙ h)

-- the record at an offset, as the code cuts it out
module _ {A : Type 0} (one : List ℕ → Body A) (s : List ℕ) (at len : ℕ) (e : len ≡ frame (drop at s)) (h : len ≡ 0 → ⊥) where
  some_frame : frame (drop at s) ≡ 0 → ⊥
  some_frame z = h (e ∙ z)

  pub record-inside : at + (2 + len) ≤ length s
  record-inside = let f = framed (drop at s) some_frame in omega (arith, f.inside, length-drop at s)

  pub cut-length : length (take (at + (2 + len) - (at + 2)) (drop (at + 2) s)) ≡ len
  cut-length =
      length-take-le (at + (2 + len) - (at + 2)) (drop (at + 2) s) (omega (arith, record-inside, length-drop (at + 2) s))
      ∙ (let z : at + (2 + len) - (at + 2) ≡ len = omega arith in z)

  pub cut-long : 0 < length (take (at + (2 + len) - (at + 2)) (drop (at + 2) s))
  cut-long = omega (arith, h, cut-length)

  pub record-cut : record_of one (drop at s) ≡ one (take (at + (2 + len) - (at + 2)) (drop (at + 2) s))
  record-cut =
      record-framed one (drop at s) some_frame
      ∙ ap₂ (λ l r. one (take l r)) (sym e ∙ (let z : len ≡ at + (2 + len) - (at + 2) = omega arith in z)) (drop-drop 2 at s)

-- ---- replies

-- no refusal is a 0
pub reply-some : (reason : Reason) → 0 < reply_of reason
reply-some R.Short = omega arith
reply-some R.Version = omega arith
reply-some R.Length = omega arith
reply-some R.TooMany = omega arith
reply-some R.Record = omega arith
reply-some R.Rule = omega arith
reply-some R.Expression = omega arith
reply-some R.HighBound = omega arith
reply-some R.LongTrace = omega arith
reply-some R.ShortBuffer = omega arith
reply-some R.Valuation = omega arith

module _ {A : Type 0} where
  pub holding-low : (f : List Token → A) (p : Parsed) → Low (holding f p)
  holding-low f (Whole e) = tt
  holding-low f (Breaks bs) = tt

  pub cond-low : (b : Bool) (x y : Body A) → Low x → Low y → Low (cond b x y)
  cond-low true x y h k = h
  cond-low false x y h k = k

  -- a reply that is not 0 is a refusal's; one that is 0 is a thing's
  pub fault_bad : (len : ℕ) (x : Body A) (f : Fault) → f ≡ fault_of len x → (f.reply ≡ 0 → ⊥)
      → (r : Refusal) × (x ≡ Bad r) × (f ≡ fault_at len r)
  fault_bad len (Good a) f e h = absurd (h (ap (λ f. f.reply) e))
  fault_bad len (Bad r) f e h = (r, refl, e)

  -- and points into the record, or at its end
  pub fault_inside : (len : ℕ) (x : Body A) (f : Fault) → f ≡ fault_of len x → f.from ≤ 2 + len
  fault_inside len (Good a) f e = omega (arith, ap (λ f. f.from) e)
  fault_inside len (Bad (AtRecord r)) f e = omega (arith, ap (λ f. f.from) e)
  fault_inside len (Bad (AtToken left)) f e = omega (arith, ap (λ f. f.from) e)

  pub fault_good : (len : ℕ) (x : Body A) (f : Fault) → Low x → f ≡ fault_of len x → f.reply ≡ 0 → (a : A) × (x ≡ Good a)
  fault_good len (Good a) f l e h = (a, refl)
  fault_good len (Bad (AtRecord q)) f l e h = absurd (let k : 5 ≤ q = l.0 in omega (arith, ap (λ f. f.reply) e))
  fault_good len (Bad (AtToken left)) f l e h = absurd (omega (arith, ap (λ f. f.reply) e))

  record-low : (one : List ℕ → Body A) → ((bs : List ℕ) → Low (one bs)) → (bs : List ℕ) → Low (record_of one bs)
  unfolding record_of
  record-low one low bs = cond-low (eqb (frame bs) 0) (Bad (AtRecord 5)) (one (take (frame bs) (drop 2 bs))) (omega arith, omega arith)
      (low (take (frame bs) (drop 2 bs)))

-- what is wrong with the expression from a place of a record on, by what the check of that part says
module _ (F : File) (may : ℕ → Bool) (from : ℕ) (body : List ℕ) (inside : from ≤ length body) where
  abbrev part : List ℕ
  part = take (length body - from) (drop from body)

  same-part : parse F may part ≡ parse F may (drop from body)
  same-part = ap (parse F may) (take_all (length body - from) (drop from body) (omega (arith, length-drop from body)))

  pub expr-fine : (n : ℕ) → checked n (parse F may (take (length body - from) (drop from body))) ≡ Ok tt
      → fine ≡ expr_fault (length body) (parse F may (drop from body))
  expr-fine n h = go (parse F may part) h ∙ ap (expr_fault (length body)) same-part
    where
      go : (p : Parsed) → checked n p ≡ Ok tt → fine ≡ expr_fault (length body) p
      go (Whole e) h = refl
      go (Breaks bs) h = absurd (let z : ◌≡◌ {A = ℕ} 0 1 = cc in omega arith)

  long : length part ≡ length body - from
  long = length-take-le (length body - from) (drop from body) (omega (arith, length-drop from body))

  -- the token stands in the part
  pub broken_inside : (i : ℕ) → checked (length (take (length body - from) (drop from body)))
      (parse F may (take (length body - from) (drop from body))) ≡ Err i → from + i ≤ length body
  broken_inside i h = go (parse F may part) h
    where
      go : (p : Parsed) → checked (length part) p ≡ Err i → from + i ≤ length body
      go (Whole e) h = absurd (let z : ◌≡◌ {A = ℕ} 0 1 = cc in omega arith)
      go (Breaks bs) h = let e : length part - length bs ≡ i = cc in omega (arith, long, inside)

  pub expr_broken : (i : ℕ) → checked (length (take (length body - from) (drop from body)))
      (parse F may (take (length body - from) (drop from body))) ≡ Err i
      → record { reply = 7; from = 2 + from + i } ≡ expr_fault (length body) (parse F may (drop from body))
  expr_broken i h = go (parse F may part) refl h ∙ ap (expr_fault (length body)) same-part
    where
      go : (p : Parsed) → parse F may part ≡ p → checked (length part) p ≡ Err i
          → record { reply = 7; from = 2 + from + i } ≡ expr_fault (length body) p
      go (Whole e) q h = absurd (let z : ◌≡◌ {A = ℕ} 0 1 = cc in omega arith)
      go (Breaks bs) q h =
          let e : length part - length bs ≡ i = cc in
          let short : length bs ≤ length part = breaks-inside F may 0 0 part bs q in
          ap (λ x. record { reply = 7; from = x }) (let z : 2 + from + i ≡ 2 + length body - length bs = omega (arith, long, inside) in z)

-- so have the records
pub stop_low : {A St : Type 0} (one : St → List ℕ → Body A) (next : St → A → St) → ((σ : St) (bs : List ℕ) → Low (one σ bs))
    → (c : ℕ) (σ : St) (bs : List ℕ) (r : ℕ) (rest : List ℕ) → records one next c σ bs ≡ Stop r rest → (5 ≤ r) × (r ≤ 7)
unfolding records
stop_low one next low zero σ [] r rest e = absurd (let z : ◌≡◌ {A = ℕ} 0 1 = cc in omega arith)
stop_low one next low zero σ (b ∷ bs) r rest e = let z : 5 ≡ r = cc in omega arith
stop_low {A = A} one next low (suc c) σ bs r rest e =
    go (record_of (one σ) bs) (record-low (one σ) (low σ) bs) e (λ a. stop_low one next low c (next σ a) (drop (2 + frame bs) bs))
  where
    on : (a : A) (p : Records A) → records one next c (next σ a) (drop (2 + frame bs) bs) ≡ p → before a p ≡ Stop r rest
        → ((q : ℕ) (xs : List ℕ) → records one next c (next σ a) (drop (2 + frame bs) bs) ≡ Stop q xs → (5 ≤ q) × (q ≤ 7))
        → (5 ≤ r) × (r ≤ 7)
    on a (Read xs) f e ih = absurd (let z : ◌≡◌ {A = ℕ} 0 1 = cc in omega arith)
    on a (Stop q xs) f e ih = let z : q ≡ r = cc in omega (arith, ih q xs f)

    go : (x : Body A) → Low x → on_record bs x (λ a. records one next c (next σ a) (drop (2 + frame bs) bs)) ≡ Stop r rest
        → ((a : A) (q : ℕ) (xs : List ℕ) → records one next c (next σ a) (drop (2 + frame bs) bs) ≡ Stop q xs → (5 ≤ q) × (q ≤ 7))
        → (5 ≤ r) × (r ≤ 7)
    go (Bad (AtRecord q)) l e ih = let z : q ≡ r = cc in omega (arith, l.0, l.1)
    go (Bad (AtToken left)) l e ih = let z : 7 ≡ r = cc in omega arith
    go (Good a) l e ih = on a (records one next c (next σ a) (drop (2 + frame bs) bs)) refl e (ih a)

-- ---- record after record, at an offset

module _ {A St : Type 0} (one : St → List ℕ → Body A) (next : St → A → St) (s : List ℕ) (at c : ℕ) (σ : St) where
  pub records-good : (a : A) → record_of (one σ) (drop at s) ≡ Good a
      → records one next (suc c) σ (drop at s) ≡ before a (records one next c (next σ a) (drop (at + (2 + frame (drop at s))) s))
  unfolding records
  records-good a e =
      ap (λ x. on_record (drop at s) x (λ a. records one next c (next σ a) (drop (2 + frame (drop at s)) (drop at s)))) e
      ∙ ap (λ r. before a (records one next c (next σ a) r)) (drop-drop (2 + frame (drop at s)) at s)

  -- the reply's bytes begin where the code says
  pub records_bad : (r : Refusal) → record_of (one σ) (drop at s) ≡ Bad r → let f = fault_at (frame (drop at s)) r in
      records one next (suc c) σ (drop at s) ≡ Stop f.reply (drop (at + f.from) s)
  unfolding records
  records_bad r e =
      ap (λ x. on_record (drop at s) x (λ a. records one next c (next σ a) (drop (2 + frame (drop at s)) (drop at s)))) e ∙ go r
    where
      go : (r : Refusal) → on_record (drop at s) (Bad r) (λ a. records one next c (next σ a) (drop (2 + frame (drop at s)) (drop at s)))
          ≡ Stop (fault_at (frame (drop at s)) r).reply (drop (at + (fault_at (frame (drop at s)) r).from) s)
      go (AtRecord r) = ap (λ i. Stop r (drop i s)) (let z : at ≡ at + 0 = omega arith in z)
      go (AtToken left) = ap (Stop 7) (drop-drop (2 + frame (drop at s) - left) at s)

  pub count-good : (a : A) → record_of (one σ) (drop at s) ≡ Good a
      → read_count one next (suc c) σ (drop at s) ≡ suc (read_count one next c (next σ a) (drop (at + (2 + frame (drop at s))) s))
  unfolding read_count
  count-good a e =
      ap (λ x. one_more one next x (λ a. read_count one next c (next σ a) (drop (2 + frame (drop at s)) (drop at s)))) e
      ∙ ap (λ r. suc (read_count one next c (next σ a) r)) (drop-drop (2 + frame (drop at s)) at s)

  pub count_bad : (r : Refusal) → record_of (one σ) (drop at s) ≡ Bad r → read_count one next (suc c) σ (drop at s) ≡ 0
  unfolding read_count
  count_bad r e = ap (λ x. one_more one next x (λ a. read_count one next c (next σ a) (drop (2 + frame (drop at s)) (drop at s)))) e

module _ {A St : Type 0} (one : St → List ℕ → Body A) (next : St → A → St) (s : List ℕ) (at : ℕ) (σ : St) where
  pub records-end : length s ≤ at → records one next 0 σ (drop at s) ≡ Read []
  unfolding records
  records-end h = ap (records one next 0 σ) (drop_of_length-le s {i = at} h)

  pub records-spare : at < length s → records one next 0 σ (drop at s) ≡ Stop 5 (drop at s)
  unfolding records
  records-spare h = ap (records one next 0 σ) (drop-cons s at 0 h) ∙ ap {B = Records A} (Stop 5) (sym (drop-cons s at 0 h))

pub reading_count : {A : Type 0} (total count : ℕ) (p : Records A) → (reading_of total count p).count ≡ count
reading_count total count (Read xs) = refl
reading_count total count (Stop r bs) = refl

pub reading_before : {A : Type 0} (total count : ℕ) (a : A) (p : Records A) → reading_of total count (before a p) ≡ reading_of total count p
reading_before total count a (Read xs) = refl
reading_before total count a (Stop r bs) = refl

pub reading_offset : {A : Type 0} (total count : ℕ) (p : Records A) → (reading_of total count p).offset ≤ total
reading_offset total count (Read xs) = omega arith
reading_offset total count (Stop r bs) = omega arith

-- ---- what is read

-- the records that are left begin with `head`
pub record Next {A St : Type 0} (one : St → List ℕ → Body A) (next : St → A → St) (s : List ℕ) (at c : ℕ) (σ : St) (xs : List A) : Type 0
  where
    pub head : A
    pub tail : List A
    pub is : xs ≡ head ∷ tail
    pub good : record_of (one σ) (drop at s) ≡ Good head
    pub on : records one next c (next σ head) (drop (at + (2 + frame (drop at s))) s) ≡ Read tail

module _ {A St : Type 0} (one : St → List ℕ → Body A) (next : St → A → St) (s : List ℕ) where
  pub next-record : (at c : ℕ) (σ : St) (xs : List A) → records one next (suc c) σ (drop at s) ≡ Read xs → Next one next s at c σ xs
  next-record at c σ xs h = go (record_of (one σ) (drop at s)) refl
    where
      go : (x : Body A) → record_of (one σ) (drop at s) ≡ x → Next one next s at c σ xs
      go (Bad r) e = absurd (let z = sym h ∙ records_bad one next s at c σ r e in let y : ◌≡◌ {A = ℕ} 0 1 = cc in omega arith)
      go (Good a) e =
          on (records one next c (next σ a) (drop (at + (2 + frame (drop at s))) s)) refl (sym (records-good one next s at c σ a e) ∙ h)
        where
          on : (p : Records A) → records one next c (next σ a) (drop (at + (2 + frame (drop at s))) s) ≡ p → before a p ≡ Read xs
              → Next one next s at c σ xs
          on (Stop r bs) q h = absurd (let y : ◌≡◌ {A = ℕ} 0 1 = cc in omega arith)
          on (Read ys) q h = record { head = a; tail = ys; is = (let k : xs ≡ a ∷ ys = cc in k); good = e; on = q }

  nothing_left : (at : ℕ) (σ : St) (xs : List A) → records one next 0 σ (drop at s) ≡ Read xs → xs ≡ []
  unfolding records
  nothing_left at σ xs h = go (drop at s) h
    where
      go : (bs : List ℕ) → records one next 0 σ bs ≡ Read xs → xs ≡ []
      go [] h = cc
      go (b ∷ bs) h = absurd (let y : ◌≡◌ {A = ℕ} 0 1 = cc in omega arith)

  pub records-chain : (Q : St → A → Type 0) → ((σ : St) (l m : ℕ) (a : A) → one σ (take l (drop m s)) ≡ Good a → Q σ a)
      → (c at : ℕ) (σ : St) (xs : List A) → records one next c σ (drop at s) ≡ Read xs → Chain one next s Q σ xs × (length xs ≡ c)
  records-chain Q sound zero at σ xs h = subst (λ ys. Chain one next s Q σ ys × (length ys ≡ 0)) (sym (nothing_left at σ xs h)) (tt, refl)
  records-chain Q sound (suc c) at σ xs h =
      let k = next-record at c σ xs h in
      let g = record-good (one σ) (drop at s) k.head k.good in
      let l = frame (drop at s) in
      let rest = records-chain Q sound c (at + (2 + frame (drop at s))) (next σ k.head) k.tail k.on in
      subst (λ ys. Chain one next s Q σ ys × (length ys ≡ suc c)) (sym k.is)
      ((sound σ l (at + 2) k.head (ap (λ r. one σ (take l r)) (sym (drop-drop 2 at s)) ∙ g.1), rest.0), ap suc rest.1)

  -- all that are read are counted
  pub count-all : (c at : ℕ) (σ : St) (xs : List A) → records one next c σ (drop at s) ≡ Read xs → read_count one next c σ (drop at s) ≡ c
  unfolding read_count
  count-all zero at σ xs h = refl
  count-all (suc c) at σ xs h =
      let k = next-record at c σ xs h in
      count-good one next s at c σ k.head k.good
      ∙ ap suc (count-all c (at + (2 + frame (drop at s))) (next σ k.head) k.tail k.on)

-- ---- files

-- room for the inputs of any version, and for the symbols of any trace
pub inputs-room : (version : ℕ) → inputs_limit version ≤ input_room
unfolding inputs_limit
inputs-room version = omega arith

pub symbols_in_two-bytes : input_room + 4096 ≤ 65536
unfolding input_room
symbols_in_two-bytes = omega arith

-- no header has fewer than six bytes, and none is long
pub head-long : (version : ℕ) → 6 ≤ head_size version
unfolding head_size
head-long version = omega arith

pub head-short : (version : ℕ) → head_size version < 65536
unfolding head_size
head-short version = omega arith

-- a header that is written: its bytes, and what is read of it
pub header-length : (head : Head) (total n : ℕ) → length (header head total n) ≡ head_size head.version
unfolding header head_size
header-length head total n = refl

module _ (head : Head) (total n : ℕ) (rest : List ℕ) where
  pub version-written : header_version (header head total n ++ rest) ≡ head.version
  unfolding header
  version-written = refl

  pub inputs-written : header_inputs (header head total n ++ rest) ≡ head.inputs
  unfolding header header_inputs
  inputs-written = refl

  pub total-written : total < 65536 → header_total (header head total n ++ rest) ≡ total
  unfolding header
  total-written h = number-written 2 total (head.inputs ∷ bytes_of 2 n ++ rest) h

  pub count-written : n < 65536 → header_count (header head total n ++ rest) ≡ n
  unfolding header header_count
  count-written h = number-written 2 n rest h

-- an accepted file
pub record Header (known : ℕ → Bool) (limit : ℕ) (s : List ℕ) : Type 0 where
  pub long : header_size s ≤ length s
  pub right : known (header_version s) ≡ true
  pub total : header_total s ≡ length s
  pub inputs : header_inputs s ≤ inputs_limit (header_version s)
  pub count : header_count s ≤ limit

module _ (known : ℕ → Bool) (limit : ℕ) (s : List ℕ) where
  -- with the code's own answer whether the version is known
  pub header-known : {b : Bool} {r : ℕ} → b ≡ known (header_version s) → r ≡ header_reply (λ version. b) limit s
      → r ≡ header_reply known limit s
  unfolding header_reply
  header-known e h = h ∙ ap (λ b. header_reply (λ version. b) limit s) e

  pub header_is : header_reply known limit s ≡ 0 → Header known limit s
  unfolding header_reply
  header_is h =
      go (leb (header_size s) (length s)) refl (known (header_version s)) refl (eqb (header_total s) (length s)) refl
      (leb (header_inputs s) (inputs_limit (header_version s)) && leb (header_count s) limit) refl h
    where
      go : (a : Bool) → leb (header_size s) (length s) ≡ a → (b : Bool) → known (header_version s) ≡ b
          → (c : Bool) → eqb (header_total s) (length s) ≡ c
          → (d : Bool) → (leb (header_inputs s) (inputs_limit (header_version s)) && leb (header_count s) limit) ≡ d
          → ◌≡◌ {A = ℕ} (cond a (cond b (cond c (cond d 0 4) 3) 2) 1) 0 → Header known limit s
      go false p b q c r d t h = absurd (omega arith)
      go true p false q c r d t h = absurd (omega arith)
      go true p true q false r d t h = absurd (omega arith)
      go true p true q true r false t h = absurd (omega arith)
      go true p true q true r true t h =
          let k = and_both (leb (header_inputs s) (inputs_limit (header_version s))) (leb (header_count s) limit) t in
          record {
            long = leb-true (header_size s) (length s) p;
            right = q;
            total = eqb-true (header_total s) (length s) r;
            inputs = leb-true (header_inputs s) (inputs_limit (header_version s)) k.0;
            count = leb-true (header_count s) limit k.1;
          }

  pub header-low : header_reply known limit s ≤ 4
  unfolding header_reply
  header-low =
      go (leb (header_size s) (length s)) (known (header_version s)) (eqb (header_total s) (length s))
      (leb (header_inputs s) (inputs_limit (header_version s)) && leb (header_count s) limit)
    where
      go : (a b c d : Bool) → cond a (cond b (cond c (cond d 0 4) 3) 2) 1 ≤ 4
      go false b c d = omega arith
      go true false c d = omega arith
      go true true false d = omega arith
      go true true true false = omega arith
      go true true true true = omega arith

  pub header-right : Header known limit s → header_reply known limit s ≡ 0
  unfolding header_reply
  header-right h =
      simp (
        le-leb (header_size s) (length s) h.long,
        h.right,
        eq-eqb (header_total s) (length s) h.total,
        le-leb (header_inputs s) (inputs_limit (header_version s)) h.inputs,
        le-leb (header_count s) limit h.count,
      )

module _ {A : Type 0} (known : ℕ → Bool) (limit : ℕ) (body : (head : Head) (n : ℕ) → List ℕ → Records A) (s : List ℕ) where
  pub file-refused : (r : ℕ) → header_reply known limit s ≡ r → (r ≡ 0 → ⊥) → read_file known limit body s ≡ Refused r 0
  unfolding read_file
  file-refused r e h =
      ap (λ x. cond (eqb x 0) (finish (length s) (head_of s) (body (head_of s) (header_count s) (after_header s))) (Refused x 0)) e
      ∙ ap (λ b. cond b (finish (length s) (head_of s) (body (head_of s) (header_count s) (after_header s))) (Refused r 0))
      (ne_eqb r 0 h)

  pub file-read : header_reply known limit s ≡ 0 → read_file known limit body s ≡ finish (length s) (head_of s)
      (body (head_of s) (header_count s) (after_header s))
  unfolding read_file
  file-read e =
      ap (λ x. cond (eqb x 0) (finish (length s) (head_of s) (body (head_of s) (header_count s) (after_header s))) (Refused x 0)) e

  -- what an accepted file is
  pub record IsFile (head : Head) (xs : List A) : Type 0 where
    pub header : header_reply known limit s ≡ 0
    pub is : head_of s ≡ head
    pub inputs : header_inputs s ≡ head.inputs
    pub read : body head (header_count s) (after_header s) ≡ Read xs

  pub file-is : (head : Head) (xs : List A) → read_file known limit body s ≡ Accepted head xs → IsFile head xs
  file-is head xs h = go (eqb (header_reply known limit s) 0) refl
    where
      done : (p : Records A) → body (head_of s) (header_count s) (after_header s) ≡ p → finish (length s) (head_of s) p ≡ Accepted head xs
          → header_reply known limit s ≡ 0 → IsFile head xs
      done (Stop r bs) q e z = absurd (let y : ◌≡◌ {A = ℕ} 0 1 = cc in omega arith)
      done (Read ys) q e z =
          let i : head_of s ≡ head = cc in
          let x : ys ≡ xs = cc in
          record {
            header = z;
            is = i;
            inputs = ap (λ h. h.inputs) i;
            read = subst (λ h. body h (header_count s) (after_header s) ≡ Read xs) i
                (q ∙ ap {B = Records A} Read x);
          }

      go : (x : Bool) → eqb (header_reply known limit s) 0 ≡ x → IsFile head xs
      go true e = let z = eqb-true (header_reply known limit s) 0 e in done (body (head_of s) (header_count s) (after_header s)) refl
          (sym (file-read z) ∙ h) z
      go false e =
          absurd (let z = sym h ∙ file-refused (header_reply known limit s) refl (eqb-false (header_reply known limit s) 0 e) in
          let y : ◌≡◌ {A = ℕ} 0 1 = cc in omega arith)

-- a refused file's reply is 1 to 7
module _ {A St : Type 0} (known : ℕ → Bool) (limit : ℕ) (one : (head : Head) (n : ℕ) → St → List ℕ → Body A) (next : St → A → St)
    (first : (head : Head) → St) (low : (head : Head) (n : ℕ) (σ : St) (bs : List ℕ) → Low (one head n σ bs)) (s : List ℕ) where
  abbrev body : (head : Head) (n : ℕ) → List ℕ → Records A
  body head n bs = records (one head n) next n (first head) bs

  pub file-refused-low : (r at : ℕ) → read_file known limit body s ≡ Refused r at → (0 < r) × (r ≤ 7)
  file-refused-low r at h = go (eqb (header_reply known limit s) 0) refl
    where
      n : ℕ
      n = header_count s

      done : (p : Records A) → body (head_of s) n (after_header s) ≡ p → finish (length s) (head_of s) p ≡ Refused r at → (0 < r) × (r ≤ 7)
      done (Read xs) q e = absurd (let z : ◌≡◌ {A = ℕ} 0 1 = cc in omega arith)
      done (Stop k bs) q e =
          let z : k ≡ r = cc in
          omega (arith, stop_low (one (head_of s) n) next (low (head_of s) n) n (first (head_of s)) (after_header s) k bs q)

      go : (x : Bool) → eqb (header_reply known limit s) 0 ≡ x → (0 < r) × (r ≤ 7)
      go true e =
          done (body (head_of s) n (after_header s)) refl (sym (file-read known limit body s (eqb-true (header_reply known limit s) 0 e))
          ∙ h)
      go false e =
          let some : header_reply known limit s ≡ 0 → ⊥ = eqb-false (header_reply known limit s) 0 e in
          let f = sym (file-refused known limit body s (header_reply known limit s) refl some) ∙ h in
          let z : header_reply known limit s ≡ r = cc in
          omega (arith, some, header-low known limit s)

-- ---- where records stand

pub offsets_length : (c at : ℕ) (bs : List ℕ) → length (offsets_from c at bs) ≡ c
unfolding offsets_from
offsets_length zero at bs = refl
offsets_length (suc c) at bs = ap suc (offsets_length c (at + (2 + frame bs)) (drop (2 + frame bs) bs))

-- the records after the first k stand from `at` on
abbrev pub Reached : (s : List ℕ) (k at : ℕ) → Type 0
Reached s k at = (j : ℕ) → offsets_in (k + j) s ≡ offsets_in k s ++ offsets_from j at (drop at s)

pub reached-start : (s : List ℕ) → Reached s 0 (header_size s)
unfolding offsets_from
reached-start s j = ap (λ n. offsets_in n s) (let e : 0 + j ≡ j = omega arith in e)

module _ (s : List ℕ) (k at : ℕ) (r : Reached s k at) where
  pub reached-next : offsets_in (k + 1) s ≡ offsets_in k s ++ at ∷ []
  unfolding offsets_from
  reached-next = r 1

  pub reached-on : Reached s (k + 1) (at + (2 + frame (drop at s)))
  unfolding offsets_from
  reached-on j =
      let f = at + (2 + frame (drop at s)) in
      ap (λ n. offsets_in n s) (let e : k + 1 + j ≡ k + suc j = omega arith in e)
      ∙ r (suc j)
      ∙ ap (λ q. offsets_in k s ++ at ∷ offsets_from j f q) (drop-drop (2 + frame (drop at s)) at s)
      ∙ sym (append_snoc (offsets_in k s) at (offsets_from j f (drop f s)))
      ∙ ap (λ q. q ++ offsets_from j f (drop f s)) (sym reached-next)

pub sets_snoc : (xs : List ℕ) (i : ℕ) (vs : List ℕ) (v : ℕ) → sets xs i (vs ++ v ∷ []) ≡ set (sets xs i vs) (i + length vs) v
sets_snoc xs i [] v = ap (λ k. set xs k v) (let e : i ≡ i + 0 = omega arith in e)
sets_snoc xs i (a ∷ vs) v =
    sets_snoc (set xs i a) (suc i) vs v ∙ ap (λ k. set (sets (set xs i a) (suc i) vs) k v)
    (let e : suc i + length vs ≡ i + suc (length vs) = omega arith in e)

pub sets_at : (xs vs : List ℕ) (k : ℕ) → length vs ≤ length xs → k < length vs → get_or (sets xs 0 vs) k 0 ≡ get_or vs k 0
sets_at xs vs k h l =
    ap (λ r. get_or r k 0) (sets-eq vs xs 0 (omega arith))
    ∙ get_or-append vs (drop (0 + length vs) xs) 0 k l

-- ---- words at the front of zeros

pub copy_next : (xs ws : List ℕ) (s : ℕ) → s < length ws → set (sets xs 0 (take s ws)) s (get_or ws s 0) ≡ sets xs 0 (take (s + 1) ws)
copy_next xs ws s h =
    ap (λ k. set (sets xs 0 (take s ws)) k (get_or ws s 0))
    (let e : s ≡ 0 + length (take s ws) = omega (arith, length-take-le s ws (omega arith)) in e)
    ∙ sym (sets_snoc xs 0 (take s ws) (get_or ws s 0))
    ∙ sym (ap (sets xs 0) (ap (λ n. take n ws) (add-one s) ∙ take-suc ws s 0 h))

pub same_everywhere : {A : Type 0} (n : ℕ) (a : A) (x : ℕ) → get_or (replicate n a) x a ≡ a
same_everywhere {A} n a x =
    elim (dec_lt x n) [
      | yes h ↦ get_or-replicate n x a a h
      | no h ↦ get_or-eq_default (replicate n a) a {n = x}
          (omega (arith, length-replicate {A = A} n a))
    ]

-- the values of symbols past the words are 0 in both
pub copy_env : (n : ℕ) (ws : List ℕ) → length ws ≤ n → env_of (sets (replicate n 0) 0 ws) ≡ env_of ws
copy_env n ws h =
    fun_ext (λ x. elim (dec_lt x (length ws)) [
      | yes l ↦ sets_at (replicate n 0) ws x (omega (arith, length-replicate {A = ℕ} n 0)) l
      | no l
          ↦ past x (omega arith)
    ])
  where
    past : (x : ℕ) → length ws ≤ x → get_or (sets (replicate n 0) 0 ws) x 0 ≡ get_or ws x 0
    past x l =
        let m = length ws in
        let k = x - length ws in
        ap (λ r. get_or r x 0) (sets-eq ws (replicate n 0) 0 (omega (arith, length-replicate {A = ℕ} n 0)))
        ∙ ap (λ y. get_or (ws ++ drop (0 + m) (replicate n 0)) y 0) (let e : x ≡ m + k = omega arith in e)
        ∙ get_or-append-add ws (drop (0 + m) (replicate n 0)) k 0
        ∙ get_or-drop (0 + m) (replicate n 0) k 0
        ∙ same_everywhere n 0 (0 + m + k)
        ∙ sym (get_or-eq_default ws 0 {n = x} l)

-- ---- fields, rules, expressions

module _ {A : Type 0} where
  pub field_there : (k : ℕ) (bs : List ℕ) (f : ℕ → List ℕ → Body A) → k ≤ length bs → field k bs f ≡ f (number_of k bs) (drop k bs)
  field_there k bs f h = ap (λ b. cond b (f (number_of k bs) (drop k bs)) (Bad (AtRecord 5))) (le-leb k (length bs) h)

  pub field_missing : (k : ℕ) (bs : List ℕ) (f : ℕ → List ℕ → Body A) → length bs < k → field k bs f ≡ Bad (AtRecord 5)
  field_missing k bs f h = ap (λ b. cond b (f (number_of k bs) (drop k bs)) (Bad (AtRecord 5))) (lt-leb k (length bs) h)

  pub fault_holding : (len : ℕ) (f : List Token → A) (p : Parsed) → fault_of len (holding f p) ≡ expr_fault len p
  fault_holding len f (Whole e) = refl
  fault_holding len f (Breaks bs) = refl

  pub field_good : (k : ℕ) (bs : List ℕ) (f : ℕ → List ℕ → Body A) (a : A) → field k bs f ≡ Good a
      → (k ≤ length bs) × (f (number_of k bs) (drop k bs) ≡ Good a)
  field_good k bs f a h = go (leb k (length bs)) refl h
    where
      go : (x : Bool) → leb k (length bs) ≡ x → cond x (f (number_of k bs) (drop k bs)) (Bad (AtRecord 5)) ≡ Good a
          → (k ≤ length bs) × (f (number_of k bs) (drop k bs) ≡ Good a)
      go true e h = (leb-true k (length bs) e, h)
      go false e h = absurd (let z : ◌≡◌ {A = ℕ} 0 1 = cc in omega arith)

  pub rule-good : (b : Bool) (x : Body A) (a : A) → rule b x ≡ Good a → (b ≡ true) × (x ≡ Good a)
  rule-good true x a h = (refl, h)
  rule-good false x a h = absurd (let z : ◌≡◌ {A = ℕ} 0 1 = cc in omega arith)

  pub record Held (f : List Token → A) (p : Parsed) (a : A) : Type 0 where
    pub expr : List Token
    pub parsed : p ≡ Whole expr
    pub is : a ≡ f expr

  pub holding-good : (f : List Token → A) (p : Parsed) (a : A) → holding f p ≡ Good a → Held f p a
  holding-good f (Whole e) a h = record { expr = e; parsed = refl; is = (let k : a ≡ f e = cc in k) }
  holding-good f (Breaks bs) a h = absurd (let z : ◌≡◌ {A = ℕ} 0 1 = cc in omega arith)
