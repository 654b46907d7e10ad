-- The laws of the check: what an accepted expression is, that its bytes are those of its tokens, how acceptance composes, renames and
-- widens; and the check at an offset of the bytes that the code holds.
use Rattle.std.specs.Prelude.{◌≡◌, ℕ, zero, suc, ◌+◌, ◌-◌, ◌<◌, ◌≤◌, Bool, true, false, cond, ◌&&◌, List, [], ◌∷◌, ◌++◌, length, drop, ◌==◌}
use Rattle.std.specs.Prelude.{nat_le, nat_lt}
use Rattle.std.proofs.Common.{arith, sym, ap₂, ◌∙◌, subst, length-drop, take-append-drop, drop_of_length-le, drop_at, drop-drop}
use Rattle.std.proofs.Math.Path.{refl, ap, fun_ext}
use Rattle.std.specs.Prelude.{Option, None, Some}
use Rattle.std.proofs.Math.Seq.{drop-nil}
use borrow.Author.Tests.{eqb-true, eq-eqb, leb-true, le-leb}
use Rattle.expr.specs.declared.File.{File}
use Rattle.expr.specs.declared.File.TheVariants.{Table, Trace}
use Rattle.expr.specs.Lists.{All, and_both, both_and, or_false}
use Rattle.expr.specs.Number.{Byte}
use Rattle.expr.specs.declared.token.Token.{Token}
use Rattle.expr.specs.declared.token.Token.TheVariants.{Const, Symbol, Un, Bin, Ite}
use Rattle.expr.specs.Token.{operands, operand_count, expr_bytes, read_token}
use Rattle.expr.specs.TokenLaws.{Holds, IsOperator, operands-length, token-written, Stands, token-stands}
use Rattle.expr.specs.Expr.{Ok, depth_limit, below, readable, pops, after, reads_only, fits, Parsed, Whole, Breaks, also, on_token}
use Rattle.expr.specs.Expr.{parse_from, parse}
use Rattle.expr.specs.Eval.{rename_token, rename}

-- with no symbol assigned, only inputs may be read
pub readable-inputs : (S : ℕ) → readable S [] ≡ below S
readable-inputs S = fun_ext (λ s. or_false (nat_lt s S))

pub depth_limit_le : (F : File) → depth_limit F ≤ 17
depth_limit_le Table = omega arith
depth_limit_le Trace = omega arith

-- ---- a token that fits

pub record Fits (may : ℕ → Bool) (limit d : ℕ) (t : Token) : Type 0 where
  pub enough : pops t ≤ d
  pub room : after d t ≤ limit
  pub known : reads_only may t ≡ true

module _ (may : ℕ → Bool) (limit d : ℕ) (t : Token) where
  pub fits-is : fits may limit d t ≡ true → Fits may limit d t
  unfolding fits
  fits-is h =
      let a = and_both (nat_le (pops t) d) (nat_le (after d t) limit && reads_only may t) h in
      let b = and_both (nat_le (after d t) limit) (reads_only may t) a.1 in
      record { enough = leb-true (pops t) d a.0; room = leb-true (after d t) limit b.0; known = b.1 }

  pub is-fits : Fits may limit d t → fits may limit d t ≡ true
  unfolding fits
  is-fits f =
      both_and (nat_le (pops t) d) _ (le-leb (pops t) d f.enough)
      (both_and (nat_le (after d t) limit) _ (le-leb (after d t) limit f.room) f.known)

-- an operand needs room, an operator needs what it pops
pub fits_const : (may : ℕ → Bool) {limit d : ℕ} (n : ℕ) → d < limit → fits may limit d (Const n) ≡ true
fits_const may {limit} {d} n h = is-fits may limit d (Const n) (record { enough = omega arith; room = omega arith; known = refl })

pub fits-symbol : (may : ℕ → Bool) {limit d : ℕ} (s : ℕ) → d < limit → may s ≡ true → fits may limit d (Symbol s) ≡ true
fits-symbol may {limit} {d} s h k = is-fits may limit d (Symbol s) (record { enough = omega arith; room = omega arith; known = k })

pub operator-pops : (t : Token) → IsOperator t → 0 < pops t
operator-pops (Const n) o = absurd o
operator-pops (Symbol s) o = absurd o
operator-pops (Un u) o = omega arith
operator-pops (Bin u) o = omega arith
operator-pops Ite o = omega arith

pub operator-reads : (may : ℕ → Bool) (t : Token) → IsOperator t → reads_only may t ≡ true
operator-reads may (Const n) o = absurd o
operator-reads may (Symbol s) o = absurd o
operator-reads may (Un u) o = refl
operator-reads may (Bin u) o = refl
operator-reads may Ite o = refl

pub fits-operator : (may : ℕ → Bool) {limit d : ℕ} (t : Token) → IsOperator t → pops t ≤ d → d ≤ limit → fits may limit d t ≡ true
fits-operator may {limit} {d} t o e h =
    is-fits may limit d t (record { enough = e; room = omega (arith, operator-pops t o); known = operator-reads may t o })

reads_more : (may might : ℕ → Bool) → ((s : ℕ) → may s ≡ true → might s ≡ true) → (t : Token) → reads_only may t ≡ true
    → reads_only might t ≡ true
reads_more may might h (Const n) k = k
reads_more may might h (Symbol s) k = h s k
reads_more may might h (Un o) k = k
reads_more may might h (Bin o) k = k
reads_more may might h Ite k = k

-- where more may be read
fits_more : (may might : ℕ → Bool) (limit d : ℕ) → ((s : ℕ) → may s ≡ true → might s ≡ true) → (t : Token) → fits may limit d t ≡ true
    → fits might limit d t ≡ true
fits_more may might limit d h t f =
    let a = fits-is may limit d t f in
    is-fits might limit d t (record { enough = a.enough; room = a.room; known = reads_more may might h t a.known })

-- ---- tokens that are an expression, from d words to z

pub ok-append : (may : ℕ → Bool) (limit d m z : ℕ) (e f : List Token) → Ok may limit d m e → Ok may limit m z f → Ok may limit d z (e ++ f)
ok-append may limit d m z [] f o p = rw (← o) at p
ok-append may limit d m z (t ∷ e) f o p = (o.0, ok-append may limit (after d t) m z e f o.1 p)

pops-rename : (f : ℕ → ℕ) (t : Token) → pops (rename_token f t) ≡ pops t
pops-rename f (Const n) = refl
pops-rename f (Symbol s) = refl
pops-rename f (Un o) = refl
pops-rename f (Bin o) = refl
pops-rename f Ite = refl

reads-rename : (may might : ℕ → Bool) (f : ℕ → ℕ) → ((s : ℕ) → may s ≡ true → might (f s) ≡ true) → (t : Token) → reads_only may t ≡ true
    → reads_only might (rename_token f t) ≡ true
reads-rename may might f h (Const n) k = k
reads-rename may might f h (Symbol s) k = h s k
reads-rename may might f h (Un o) k = k
reads-rename may might f h (Bin o) k = k
reads-rename may might f h Ite k = k

-- renamed, above k words more: 16 words become 17 above one
pub ok-rename : (may might : ℕ → Bool) (f : ℕ → ℕ) (k limit d z : ℕ) (e : List Token) → ((s : ℕ) → may s ≡ true → might (f s) ≡ true)
    → Ok may limit d z e → Ok might (limit + k) (d + k) (z + k) (rename f e)
ok-rename may might f k limit d z [] h o = ap (λ x. x + k) o
ok-rename may might f k limit d z (t ∷ e) h o =
    let a = fits-is may limit d t o.0 in
    let p : pops (rename_token f t) ≡ pops t = pops-rename f t in
    let q : pops t ≤ d = a.enough in
    let r : suc (d - pops t) ≤ limit = a.room in (
      is-fits might (limit + k) (d + k) (rename_token f t) (record {
        enough = omega arith;
        room = omega arith;
        known = reads-rename may might f h t a.known;
      }),
      subst (λ x. Ok might (limit + k) x (z + k) (rename f e)) (let u : suc (d - pops t) + k ≡ suc (d + k - pops (rename_token f t)) =
          omega arith in u)
          (ok-rename may might f k limit (after d t) z e h o.1),
    )

-- ---- the check, token by token

-- where d words are held the tokens e begin with one that fits
pub record Took (F : File) (may : ℕ → Bool) (d : ℕ) (read : Option Token) (rest : ℕ → ℕ → Parsed) (e : List Token) : Type 0 where
  pub token : Token
  pub tail : List Token
  pub is_read : read ≡ Some token
  pub fit : fits may (depth_limit F) d token ≡ true
  pub is : e ≡ token ∷ tail
  pub on : rest (after d token) (operand_count F token) ≡ Whole tail

module _ (F : File) (may : ℕ → Bool) (d : ℕ) (here : List ℕ) where
  pub took : (o : Option Token) (rest : ℕ → ℕ → Parsed) (e : List Token) → on_token F may d here o rest ≡ Whole e → Took F may d o rest e
  took None rest e q = absurd (let z : ◌≡◌ {A = ℕ} 0 1 = cc in omega arith)
  took (Some t) rest e q = go (fits may (depth_limit F) d t) refl (rest (after d t) (operand_count F t)) refl q
    where
      go : (x : Bool) → fits may (depth_limit F) d t ≡ x → (p : Parsed) → rest (after d t) (operand_count F t) ≡ p
          → cond x (also t p) (Breaks here) ≡ Whole e → Took F may d (Some t) rest e
      go false f p r q = absurd (let z : ◌≡◌ {A = ℕ} 0 1 = cc in omega arith)
      go true f (Breaks bs) r q = absurd (let z : ◌≡◌ {A = ℕ} 0 1 = cc in omega arith)
      go true f (Whole u) r q = record { token = t; tail = u; is_read = refl; fit = f; is = (let k : e ≡ t ∷ u = cc in k); on = r }

  pub on-token : (t : Token) (rest : ℕ → ℕ → Parsed) → fits may (depth_limit F) d t ≡ true
      → on_token F may d here (Some t) rest ≡ also t (rest (after d t) (operand_count F t))
  on-token t rest f = ap (λ x. cond x (also t (rest (after d t) (operand_count F t))) (Breaks here)) f

module _ (F : File) (may : ℕ → Bool) where
  -- the bytes from an offset on
  pub parse-drop : (d k : ℕ) (bs : List ℕ) → parse_from F may d k bs ≡ parse_from F may d 0 (drop k bs)
  unfolding parse_from
  parse-drop d zero bs = refl
  parse-drop d (suc k) [] = refl
  parse-drop d (suc k) (b ∷ bs) = parse-drop d k bs

  parse_skip : (d k : ℕ) (xs rest : List ℕ) → length xs ≡ k → parse_from F may d k (xs ++ rest) ≡ parse_from F may d 0 rest
  parse_skip d k xs rest h = parse-drop d k (xs ++ rest) ∙ ap (parse_from F may d 0) (drop_at xs rest k h)

  -- ---- written, then read

  pub parse-written : (d : ℕ) (e : List Token) → Ok may (depth_limit F) d 1 e → All (Holds F) e
      → parse_from F may d 0 (expr_bytes F e) ≡ Whole e
  unfolding parse_from
  parse-written d [] o h = ap (λ b. cond b (Whole []) (Breaks [])) (eq-eqb d 1 o)
  parse-written d (t ∷ e) o h =
      ap (λ r. on_token F may d (expr_bytes F (t ∷ e)) r (λ c m. parse_from F may c m (operands F t ++ expr_bytes F e)))
      (token-written F t (expr_bytes F e) h.0)
      ∙ on-token F may d (expr_bytes F (t ∷ e)) t (λ c m. parse_from F may c m (operands F t ++ expr_bytes F e)) o.0
      ∙ ap (also t) (
      parse_skip (after d t) (operand_count F t) (operands F t) (expr_bytes F e) (operands-length F t)
      ∙ parse-written (after d t) e o.1 h.1)

  -- ---- read, then written

  -- the bytes bs are the expression e
  pub record Accepted (d : ℕ) (bs : List ℕ) (e : List Token) : Type 0 where
    pub ok : Ok may (depth_limit F) d 1 e
    pub holds : All (Holds F) e
    pub bytes : expr_bytes F e ≡ bs

  ended : (d : ℕ) (bs : List ℕ) (e : List Token) → bs ≡ [] → (x : Bool) → (d == 1) ≡ x → cond x (Whole []) (Breaks []) ≡ Whole e
      → Accepted d bs e
  ended d bs e n false q h = absurd (let z : ◌≡◌ {A = ℕ} 0 1 = cc in omega arith)
  ended d bs e n true q h = let p : [] ≡ e = cc in subst (Accepted d bs) p (record { ok = eqb-true d 1 q; holds = tt; bytes = sym n })

  front : (d b : ℕ) (bs : List ℕ) (e : List Token) → All Byte bs
      → (k : Took F may d (read_token F (b ∷ bs)) (λ c m. parse_from F may c m bs) e)
      → Accepted (after d k.token) (drop (operand_count F k.token) bs) k.tail → Accepted d (b ∷ bs) e
  front d b bs e o k a =
      let t = k.token in
      let s : Stands F (b ∷ bs) t = token-stands F b bs t o k.is_read in
      subst (Accepted d (b ∷ bs)) (sym k.is) (record {
        ok = (k.fit, a.ok);
        holds = (s.holds, a.holds);
        bytes = ap₂ (λ x y. x ++ y) s.bytes a.bytes ∙ take-append-drop (suc (operand_count F t)) (b ∷ bs);
      })

  accepted-from : (d k : ℕ) (bs : List ℕ) (e : List Token) → All Byte bs → parse_from F may d k bs ≡ Whole e → Accepted d (drop k bs) e
  unfolding parse_from
  accepted-from d k [] e o h = ended d (drop k []) e (drop-nil k) (d == 1) refl h
  accepted-from d (suc k) (b ∷ bs) e o h = accepted-from d k bs e o.1 h
  accepted-from d zero (b ∷ bs) e o h =
      let k = took F may d (b ∷ bs) (read_token F (b ∷ bs)) (λ c m. parse_from F may c m bs) e h in
      front d b bs e o.1 k (accepted-from (after d k.token) (operand_count F k.token) bs k.tail o.1 k.on)

  pub parse-accepted : (bs : List ℕ) (e : List Token) → All Byte bs → parse F may bs ≡ Whole e → Accepted 0 bs e
  parse-accepted bs e o h = accepted-from 0 0 bs e o h

-- the bytes from a breaking token on are no more than all
pub breaks-inside : (F : File) (may : ℕ → Bool) (d k : ℕ) (bs rest : List ℕ) → parse_from F may d k bs ≡ Breaks rest
    → length rest ≤ length bs
unfolding parse_from
breaks-inside F may d k [] rest h = go (d == 1) h
  where
    go : (x : Bool) → cond x (Whole []) (Breaks []) ≡ Breaks rest → length rest ≤ 0
    go true h = absurd (let z : ◌≡◌ {A = ℕ} 0 1 = cc in omega arith)
    go false h = let e : rest ≡ [] = cc in omega (arith, ap length e)
breaks-inside F may d (suc k) (b ∷ bs) rest h = omega (arith, breaks-inside F may d k bs rest h)
breaks-inside F may d zero (b ∷ bs) rest h = go (read_token F (b ∷ bs)) h (λ c m. breaks-inside F may c m bs rest)
  where
    on : (t : Token) (x : Bool) (p : Parsed) → cond x (also t p) (Breaks (b ∷ bs)) ≡ Breaks rest
        → (p ≡ Breaks rest → length rest ≤ length bs) → length rest ≤ suc (length bs)
    on t false p h ih = let e : rest ≡ b ∷ bs = cc in omega (arith, ap length e)
    on t true (Whole e) h ih = absurd (let z : ◌≡◌ {A = ℕ} 0 1 = cc in omega arith)
    on t true (Breaks xs) h ih = omega (arith, ih h)

    go : (o : Option Token) → on_token F may d (b ∷ bs) o (λ c m. parse_from F may c m bs) ≡ Breaks rest
        → ((c m : ℕ) → parse_from F may c m bs ≡ Breaks rest → length rest ≤ length bs) → length rest ≤ suc (length bs)
    go None h ih = let e : rest ≡ b ∷ bs = cc in omega (arith, ap length e)
    go (Some t) h ih =
        on t (fits may (depth_limit F) d t) (parse_from F may (after d t) (operand_count F t) bs) h (ih (after d t) (operand_count F t))

-- where more may be read, what was accepted is accepted
pub parse-more : (F : File) (may might : ℕ → Bool) → ((s : ℕ) → may s ≡ true → might s ≡ true) → (d k : ℕ) (bs : List ℕ) (e : List Token)
    → parse_from F may d k bs ≡ Whole e → parse_from F might d k bs ≡ Whole e
unfolding parse_from
parse-more F may might h d k [] e q = q
parse-more F may might h d (suc k) (b ∷ bs) e q = parse-more F may might h d k bs e q
parse-more F may might h d zero (b ∷ bs) e q =
    let k = took F may d (b ∷ bs) (read_token F (b ∷ bs)) (λ c m. parse_from F may c m bs) e q in
    let t = k.token in
    ap (λ r. on_token F might d (b ∷ bs) r (λ c m. parse_from F might c m bs)) k.is_read
    ∙ on-token F might d (b ∷ bs) t (λ c m. parse_from F might c m bs) (fits_more may might (depth_limit F) d h t k.fit)
    ∙ ap (also t) (parse-more F may might h (after d t) (operand_count F t) bs k.tail k.on)
    ∙ sym (ap {B = Parsed} Whole k.is)

-- ---- at an offset

module _ (F : File) (may : ℕ → Bool) (d : ℕ) where
  token-first : (bs : List ℕ) → 0 < length bs → parse_from F may d 0 bs ≡ on_token F may d bs (read_token F bs)
      (λ c m. parse_from F may c 0 (drop (suc m) bs))
  unfolding parse_from
  token-first [] h = absurd (omega arith)
  token-first (b ∷ bs) h = ap (on_token F may d (b ∷ bs) (read_token F (b ∷ bs))) (fun_ext (λ c. fun_ext (λ m. parse-drop F may c m bs)))

  pub token-at : (s : List ℕ) (i : ℕ) → i < length s
      → parse_from F may d 0 (drop i s) ≡ on_token F may d (drop i s) (read_token F (drop i s))
      (λ c m. parse_from F may c 0 (drop (i + suc m) s))
  token-at s i h =
      token-first (drop i s) (omega (arith, length-drop i s))
      ∙ ap (on_token F may d (drop i s) (read_token F (drop i s)))
      (fun_ext (λ c. fun_ext (λ m. ap (parse_from F may c 0) (drop-drop (suc m) i s))))

  pub end-at : (s : List ℕ) (i : ℕ) → length s ≤ i → parse_from F may d 0 (drop i s) ≡ cond (d == 1) (Whole []) (Breaks [])
  unfolding parse_from
  end-at s i h = ap (parse_from F may d 0) (drop_of_length-le s {i = i} h)
