-- The laws of evaluation: over `++`, of a renamed expression, on the symbols read, what an expression pushes, and that words stay words.
use Rattle.std.specs.Prelude.{◌≡◌, ℕ, ◌<◌, ◌≤◌, Bool, true, false, cond, List, [], ◌∷◌, ◌++◌, length, ◌==◌, ◌≢◌, slice_set}
use Rattle.std.proofs.Common.{arith, sym, ap, ◌∙◌, get_or-set_same, get_or-set_other, eqb-true, eq-eqb, ne_eqb}
use Rattle.std.proofs.Math.Path.{refl, fun_ext}
use Rattle.std.proofs.lemmas.Bool.{eqb-false}
use Rattle.expr.specs.declared.File.{File}
use Rattle.expr.specs.Lists.{All, or_left, or_right, or_cases}
use Rattle.expr.specs.Word.{Word}
use Rattle.expr.specs.WordLaws.{unary_lt, binary_lt, choice_lt}
use Rattle.expr.specs.declared.token.Token.{Token}
use Rattle.expr.specs.declared.token.Token.TheVariants.{Const, Symbol, Un, Bin, Ite}
use Rattle.expr.specs.TokenLaws.{Holds}
use Rattle.expr.specs.Expr.{pops, after, reads_only, fits, Whole}
use Rattle.expr.proofs.ExprLaws.{fits-is}
use Rattle.expr.specs.Expr.{Ok}
use Rattle.expr.specs.Eval.{Env, env_of, update, step, eval, top, value, rename_token, rename, reads_token, reads}
use Rattle.expr.specs.Shown.{value_of}

pub eval-append : (ρ : Env) (e f : List Token) (st : List ℕ) → eval ρ (e ++ f) st ≡ eval ρ f (eval ρ e st)
eval-append ρ [] f st = refl
eval-append ρ (t ∷ e) f st = eval-append ρ e f (step ρ t st)

-- ---- the value is the word on top

pub value-top : (ρ : Env) (e : List Token) {a : ℕ} {st : List ℕ} → eval ρ e [] ≡ a ∷ st → value ρ e ≡ a
unfolding value
value-top ρ e h = ap top h

-- of bytes that are an expression
pub value-whole : (ρ : Env) (e : List Token) → value_of ρ (Whole e) ≡ value ρ e
unfolding value
value-whole ρ e = refl

-- ---- values in a list

pub update-set : (vals : List ℕ) (s v : ℕ) → s < length vals → env_of (slice_set vals s v) ≡ update (env_of vals) s v
update-set vals s v h = fun_ext (λ x. go x (x == s) refl)
  where
    go : (x : ℕ) (b : Bool) → (x == s) ≡ b → env_of (slice_set vals s v) x ≡ cond b v (env_of vals x)
    go x true e = ap (env_of (slice_set vals s v)) (eqb-true x s e) ∙ get_or-set_same vals s v 0 h
    go x false e = get_or-set_other vals s x v 0 (λ q. eqb-false x s e q)

-- ---- one symbol's value

pub update_same : (ρ : Env) (s v : ℕ) → update ρ s v s ≡ v
update_same ρ s v = ap (λ b. cond b v (ρ s)) (eq-eqb s s refl)

pub update_other : (ρ : Env) (s v x : ℕ) → (x ≢ s) → update ρ s v x ≡ ρ x
update_other ρ s v x n = ap (λ b. cond b v (ρ x)) (ne_eqb x s n)

pub update_self : (ρ : Env) (s : ℕ) → update ρ s (ρ s) ≡ ρ
update_self ρ s = fun_ext (λ x. go x (x == s) refl)
  where
    go : (x : ℕ) (b : Bool) → (x == s) ≡ b → cond b (ρ s) (ρ x) ≡ ρ x
    go x true e = ap ρ (sym (eqb-true x s e))
    go x false e = refl

-- ---- other symbols

step-rename : (σ : Env) (f : ℕ → ℕ) (t : Token) (st : List ℕ) → step σ (rename_token f t) st ≡ step (λ s. σ (f s)) t st
step-rename σ f (Const n) st = refl
step-rename σ f (Symbol s) st = refl
step-rename σ f (Un o) st = refl
step-rename σ f (Bin o) st = refl
step-rename σ f Ite st = refl

pub eval-rename : (σ : Env) (f : ℕ → ℕ) (e : List Token) (st : List ℕ) → eval σ (rename f e) st ≡ eval (λ s. σ (f s)) e st
eval-rename σ f [] st = refl
eval-rename σ f (t ∷ e) st = ap (eval σ (rename f e)) (step-rename σ f t st) ∙ eval-rename σ f e (step (λ s. σ (f s)) t st)

-- ---- only the symbols read matter

step_agree : (σ τ : Env) (t : Token) (st : List ℕ) → ((x : ℕ) → reads_token x t ≡ true → σ x ≡ τ x) → step σ t st ≡ step τ t st
step_agree σ τ (Const n) st h = refl
step_agree σ τ (Symbol s) st h = ap {B = List ℕ} (λ v. v ∷ st) (h s (eq-eqb s s refl))
step_agree σ τ (Un o) st h = refl
step_agree σ τ (Bin o) st h = refl
step_agree σ τ Ite st h = refl

pub eval_agree : (σ τ : Env) (e : List Token) (st : List ℕ) → ((x : ℕ) → reads x e ≡ true → σ x ≡ τ x) → eval σ e st ≡ eval τ e st
eval_agree σ τ [] st h = refl
eval_agree σ τ (t ∷ e) st h =
    ap (eval σ e) (step_agree σ τ t st (λ x q. h x (or_left _ (reads x e) q)))
    ∙ eval_agree σ τ e (step τ t st) (λ x q. h x (or_right (reads_token x t) _ q))

pub value_agree : (σ τ : Env) (e : List Token) → ((x : ℕ) → reads x e ≡ true → σ x ≡ τ x) → value σ e ≡ value τ e
unfolding value
value_agree σ τ e h = ap top (eval_agree σ τ e [] h)

-- an expression reads only symbols that it may
token-reads : (may : ℕ → Bool) (t : Token) (x : ℕ) → reads_only may t ≡ true → reads_token x t ≡ true → may x ≡ true
token-reads may (Const n) x k q = cc
token-reads may (Symbol s) x k q = ap may (eqb-true x s q) ∙ k
token-reads may (Un o) x k q = cc
token-reads may (Bin o) x k q = cc
token-reads may Ite x k q = cc

pub reads_known : (may : ℕ → Bool) (limit d z : ℕ) (e : List Token) (x : ℕ) → Ok may limit d z e → reads x e ≡ true → may x ≡ true
reads_known may limit d z [] x o q = cc
reads_known may limit d z (t ∷ e) x o q =
    or_cases (reads_token x t) (reads x e) (token-reads may t x (fits-is may limit d t o.0).known)
    (reads_known may limit (after d t) z e x o.1) q

-- ---- what an expression pushes

-- the words below those that a token pops stay
step-frame : (ρ : Env) (t : Token) (st base : List ℕ) → pops t ≤ length st → step ρ t (st ++ base) ≡ step ρ t st ++ base
step-frame ρ (Const n) st base h = refl
step-frame ρ (Symbol s) st base h = refl
step-frame ρ (Un o) [] base h = absurd (omega arith)
step-frame ρ (Un o) (a ∷ st) base h = refl
step-frame ρ (Bin o) [] base h = absurd (omega arith)
step-frame ρ (Bin o) (a ∷ []) base h = absurd (omega arith)
step-frame ρ (Bin o) (b ∷ a ∷ st) base h = refl
step-frame ρ Ite [] base h = absurd (omega arith)
step-frame ρ Ite (b ∷ []) base h = absurd (omega arith)
step-frame ρ Ite (b ∷ a ∷ []) base h = absurd (omega arith)
step-frame ρ Ite (b ∷ a ∷ c ∷ st) base h = refl

pub step-length : (ρ : Env) (t : Token) (st : List ℕ) → pops t ≤ length st → length (step ρ t st) ≡ after (length st) t
step-length ρ (Const n) st h = omega arith
step-length ρ (Symbol s) st h = omega arith
step-length ρ (Un o) [] h = absurd (omega arith)
step-length ρ (Un o) (a ∷ st) h = omega arith
step-length ρ (Bin o) [] h = absurd (omega arith)
step-length ρ (Bin o) (a ∷ []) h = absurd (omega arith)
step-length ρ (Bin o) (b ∷ a ∷ st) h = omega arith
step-length ρ Ite [] h = absurd (omega arith)
step-length ρ Ite (b ∷ []) h = absurd (omega arith)
step-length ρ Ite (b ∷ a ∷ []) h = absurd (omega arith)
step-length ρ Ite (b ∷ a ∷ c ∷ st) h = omega arith

module _ (may : ℕ → Bool) (limit : ℕ) (ρ : Env) where
  enough : (d : ℕ) (t : Token) (st : List ℕ) → length st ≡ d → fits may limit d t ≡ true → pops t ≤ length st
  enough d t st q f = omega (arith, (fits-is may limit d t f).enough)

  deeper : (d : ℕ) (t : Token) (st : List ℕ) → length st ≡ d → fits may limit d t ≡ true → length (step ρ t st) ≡ after d t
  deeper d t st q f = step-length ρ t st (enough d t st q f) ∙ ap (λ n. after n t) q

  eval-frame : (d z : ℕ) (e : List Token) (st base : List ℕ) → length st ≡ d → Ok may limit d z e
      → eval ρ e (st ++ base) ≡ eval ρ e st ++ base
  eval-frame d z [] st base q o = refl
  eval-frame d z (t ∷ e) st base q o =
      ap (eval ρ e) (step-frame ρ t st base (enough d t st q o.0))
      ∙ eval-frame (after d t) z e (step ρ t st) base (deeper d t st q o.0) o.1

  pub eval-length : (d z : ℕ) (e : List Token) (st : List ℕ) → length st ≡ d → Ok may limit d z e → length (eval ρ e st) ≡ z
  eval-length d z [] st q o = q ∙ o
  eval-length d z (t ∷ e) st q o = eval-length (after d t) z e (step ρ t st) (deeper d t st q o.0) o.1

  single : (l base : List ℕ) → length l ≡ 1 → l ++ base ≡ top l ∷ base
  single [] base q = absurd (omega arith)
  single (a ∷ []) base q = refl
  single (a ∷ b ∷ l) base q = absurd (omega arith)

  -- its value, whatever lies below
  pub eval_push : (e : List Token) (base : List ℕ) → Ok may limit 0 1 e → eval ρ e base ≡ value ρ e ∷ base
  unfolding value
  eval_push e base o = eval-frame 0 1 e [] base refl o ∙ single (eval ρ e []) base (eval-length 0 1 e [] refl o)

-- renamed, in an environment that agrees with the other on what may be read, it pushes the other's value
pub push_rename : (may : ℕ → Bool) (limit : ℕ) (σ ρ : Env) (f : ℕ → ℕ) (e : List Token) (base : List ℕ) → Ok may limit 0 1 e
    → ((s : ℕ) → may s ≡ true → σ (f s) ≡ ρ s) → eval σ (rename f e) base ≡ value ρ e ∷ base
push_rename may limit σ ρ f e base o h =
    eval-rename σ f e base
    ∙ eval_agree (λ s. σ (f s)) ρ e base (λ x q. h x (reads_known may limit 0 1 e x o q))
    ∙ eval_push may limit ρ e base o

-- ---- words stay words

step_words : (F : File) (ρ : Env) (t : Token) (st : List ℕ) → Holds F t → ((x : ℕ) → reads_token x t ≡ true → Word (ρ x)) → All Word st
    → All Word (step ρ t st)
step_words F ρ (Const n) st c h a = (c, a)
step_words F ρ (Symbol s) st c h a = (h s (eq-eqb s s refl), a)
step_words F ρ (Un o) [] c h a = a
step_words F ρ (Un o) (x ∷ st) c h a = (unary_lt 32 (omega arith) o x, a.1)
step_words F ρ (Bin o) [] c h a = a
step_words F ρ (Bin o) (y ∷ []) c h a = a.1
step_words F ρ (Bin o) (y ∷ x ∷ st) c h a = (binary_lt 32 (omega arith) o x y a.1.0 a.0, a.1.1)
step_words F ρ Ite [] c h a = a
step_words F ρ Ite (z ∷ []) c h a = a.1
step_words F ρ Ite (z ∷ y ∷ []) c h a = a.1.1
step_words F ρ Ite (z ∷ y ∷ x ∷ st) c h a = (choice_lt 32 (omega arith) x y z a.1.0 a.0, a.1.1.1)

pub eval-words : (F : File) (ρ : Env) (e : List Token) (st : List ℕ) → All (Holds F) e → ((x : ℕ) → reads x e ≡ true → Word (ρ x))
    → All Word st → All Word (eval ρ e st)
eval-words F ρ [] st c h a = a
eval-words F ρ (t ∷ e) st c h a =
    eval-words F ρ e (step ρ t st) c.1 (λ x q. h x (or_right (reads_token x t) _ q))
    (step_words F ρ t st c.0 (λ x q. h x (or_left _ (reads x e) q)) a)

pub value_word : (F : File) (ρ : Env) (e : List Token) → All (Holds F) e → ((x : ℕ) → reads x e ≡ true → Word (ρ x)) → Word (value ρ e)
unfolding value
value_word F ρ e c h = go (eval ρ e []) (eval-words F ρ e [] c h tt)
  where
    go : (st : List ℕ) → All Word st → Word (top st)
    go [] a = omega arith
    go (x ∷ st) a = a.0
