-- The words that the stack holds, pushed and popped.
use Rattle.std.proofs.Common.{◌≡◌, ℕ, zero, suc, ◌+◌, ◌-◌, ◌<◌, ◌≤◌, List, ◌∷◌, length, set, refl, ap, ap₂, ◌∙◌, sym, add-one, arith}
use Rattle.std.proofs.Common.{length-set, get_or-set_other, get_or-set_same}
use Rattle.expr.specs.declared.stack.Stack.{Stack}
use Rattle.expr.specs.Stack.{pushed_on, top_of, without_top}
use Rattle.expr.specs.declared.word.Unary.{Unary}
use Rattle.expr.specs.declared.word.Binary.{Binary}
use Rattle.expr.specs.Word.{unary, binary, choice}
use Rattle.expr.specs.declared.token.Token.{Token}
use Rattle.expr.specs.declared.token.Token.TheVariants.{Const, Symbol, Un, Bin, Ite}
use Rattle.expr.specs.Expr.{pops, after}
use Rattle.expr.specs.Eval.{Env, step, push_unary, push_binary, push_ite}
use Rattle.expr.specs.Shown.{stack_of, held, Stepped}

-- a word at or above the depth is no part of it
stack-below : (w : List ℕ) (d i v : ℕ) → d ≤ i → stack_of (set w i v) d ≡ stack_of w d
unfolding stack_of
stack-below w zero i v h = refl
stack-below w (suc d) i v h =
    ap₂ {C = List ℕ} (λ x xs. x ∷ xs) (get_or-set_other w i d v 0 (λ e. omega arith)) (stack-below w d i v (omega arith))

pub held-push : (s : Stack) (v : ℕ) → s.depth < length s.words → held (pushed_on s v) ≡ v ∷ held s
unfolding stack_of
held-push s v h =
    ap (stack_of (set s.words s.depth v)) (add-one s.depth)
    ∙ ap₂ {C = List ℕ} (λ x xs. x ∷ xs) (get_or-set_same s.words s.depth v 0 h) (stack-below s.words s.depth s.depth v (omega arith))

-- the top x of a stack s is popped, which leaves r
pub record Popped (s r : Stack) (x : ℕ) : Type 0 where
  pub words : held s ≡ x ∷ held r
  pub deep : r.depth ≡ s.depth - 1
  pub same : r.words ≡ s.words

pub popped : (s r : Stack) (x : ℕ) → 0 < s.depth → x ≡ top_of s → r ≡ without_top s → Popped s r x
unfolding stack_of
popped s r x h e q = record {
  words =
      ap (stack_of s.words) (let k : s.depth ≡ suc (s.depth - 1) = omega arith in k)
      ∙ ap₂ {C = List ℕ} (λ y xs. y ∷ xs) (sym e) (sym (ap held q));
  deep = ap (λ (t : Stack). t.depth) q;
  same = ap (λ (t : Stack). t.words) q;
}

-- ---- what each kind of token makes of the stack s

module _ (ρ : Env) (t : Token) (s s' : Stack) (l : length s.words ≡ 17) (enough : pops t ≤ s.depth) (room : after s.depth t ≤ 17) where
  -- it leaves the words of the stack r, and pushes v on them
  pushes : (r : Stack) (v : ℕ) → s' ≡ pushed_on r v → r.words ≡ s.words → r.depth ≡ s.depth - pops t → v ∷ held r ≡ step ρ t (held s)
      → Stepped ρ t s s'
  pushes r v e w d q = record {
    deep = ap (λ (x : Stack). x.depth) e ∙ (let k : r.depth + 1 ≡ after s.depth t = omega arith in k);
    words = ap held e ∙ held-push r v (let k : r.depth < length r.words = omega (arith, ap length w) in k) ∙ q;
    long = ap (λ (x : Stack). length x.words) e ∙ length-set r.words r.depth v ∙ ap length w;
  }

  by : {u : Token} → t ≡ u → step ρ u (held s) ≡ step ρ t (held s)
  by i = sym (ap (λ u. step ρ u (held s)) i)

  pub constant-steps : (w : ℕ) → t ≡ Const w → s' ≡ pushed_on s w → Stepped ρ t s s'
  constant-steps w i e = pushes s w e refl (omega (arith, ap pops i)) (by i)

  pub symbol-steps : (x : ℕ) → t ≡ Symbol x → s' ≡ pushed_on s (ρ x) → Stepped ρ t s s'
  symbol-steps x i e = pushes s (ρ x) e refl (omega (arith, ap pops i)) (by i)

  pub unary-steps : {o : Unary} {r : Stack} {a v : ℕ} → t ≡ Un o → Popped s r a → v ≡ unary 32 o a → s' ≡ pushed_on r v → Stepped ρ t s s'
  unary-steps {o} {r} {a} {v} i p q e =
      pushes r v e p.same (omega (arith, ap pops i, p.deep))
      (ap {B = List ℕ} (λ x. x ∷ held r) q ∙ sym (ap (push_unary o) p.words) ∙ by i)

  pub binary-steps : {o : Binary} {r' r : Stack} {a b v : ℕ} → t ≡ Bin o → Popped s r' b → Popped r' r a → v ≡ binary 32 o a b
      → s' ≡ pushed_on r v → Stepped ρ t s s'
  binary-steps {o} {r'} {r} {a} {b} {v} i p p' q e =
      pushes r v e (p'.same ∙ p.same) (omega (arith, ap pops i, p.deep, p'.deep))
      (ap {B = List ℕ} (λ x. x ∷ held r) q
      ∙ sym (ap (push_binary o) (p.words ∙ ap {B = List ℕ} (λ st. b ∷ st) p'.words)) ∙ by i)

  pub ite-steps : {r'' r' r : Stack} {a b c v : ℕ} → t ≡ Ite → Popped s r'' b → Popped r'' r' a → Popped r' r c → v ≡ choice c a b
      → s' ≡ pushed_on r v → Stepped ρ t s s'
  ite-steps {r''} {r'} {r} {a} {b} {c} {v} i p p' p'' q e =
      pushes r v e (p''.same ∙ p'.same ∙ p.same) (omega (arith, ap pops i, p.deep, p'.deep, p''.deep))
      (ap {B = List ℕ} (λ x. x ∷ held r) q
      ∙ sym (ap push_ite (p.words ∙ ap {B = List ℕ} (λ st. b ∷ st) (p'.words ∙ ap {B = List ℕ} (λ st. a ∷ st) p''.words))) ∙ by i)
