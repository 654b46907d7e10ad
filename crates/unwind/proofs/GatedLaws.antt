-- The gated run from both sides. Judging the statements of a list of places is its gated run, statement for place. The gated run of
-- the unwound table is the direct run, step for step: the places that a jump leaps over lie below control, and do nothing.
use Prim.Native.Nat.{ℕ, zero, suc, ◌+◌, ◌-◌, ◌*◌, ◌≤◌, ◌<◌}
use Rattle.std.proofs.Common.{arith, add-zero, add-one, sym, ◌∙◌, length-drop, drop-drop, leb-false, le-leb, ltb-true, lt-ltb, le-ltb}
use Rattle.std.specs.Prelude.{◌≡◌, Bool, true, false, cond, length, drop, eqb, leb}
use Rattle.std.proofs.Math.Path.{refl, ap}
use mathlib.Core.List.{List, [], ◌∷◌, ◌++◌}
use Rattle.std.proofs.lemmas.Bool.{lt-leb}
use Rattle.expr.specs.Lists.{All, all_drop, drop-next}
use Rattle.expr.specs.declared.word.Unary.TheVariants.{Zero}
use Rattle.expr.specs.declared.word.Binary.TheVariants.{Ule}
use Rattle.expr.specs.Word.{truthy, test, binary}
use Rattle.expr.specs.declared.token.Token.{Token}
use Rattle.expr.specs.declared.token.Token.TheVariants.{Const, Symbol, Un, Ite}
use Rattle.expr.specs.Expr.{below}
use Rattle.expr.specs.Eval.{Env, env_of, update, eval, value, rename}
use Rattle.expr.specs.OperatorLaws.{zero_tests, ule_tests}
use Rattle.expr.proofs.EvalLaws.{value-top, update_same, update_other, update_self, eval-append, eval_push, push_rename}
use Rattle.file.specs.Outcome.{Kind, Outcome, Ended, Failed}
use Rattle.table.specs.Table.{Instr, Assign, Test, IfThenGoto}
use Rattle.table.specs.TableLaws.{ExprOk, InstrOk}
use Rattle.table.specs.Run.{place_in, Halt, Go, step, step_at, onward, run_from, run}
use Rattle.trace.specs.Judge.{judge}
use Rattle.unwind.specs.Places.{Action, Set, Check, Jump, Exit, Place, At, end_of, jump_in, action_in, copy_from, copies_from, places}
use Rattle.unwind.specs.Unwind.{Newest, guarded, becomes, makes_current, makes_control, statements}
use Rattle.unwind.proofs.UnwindLaws.{PlaceOk}
use Rattle.unwind.specs.Gated.{gate, act, gated_run, shown_as}

-- ---- judging is the gated run

truthy-test : (b : Bool) → truthy (test b) ≡ b
truthy-test true = refl
truthy-test false = refl

-- where the body pushes the word a and the old token the word b
guarded-value : (σ : Env) (W j : ℕ) (body : List Token) (old : Token) (a b : ℕ) → ((st : List ℕ) → eval σ body st ≡ a ∷ st)
    → ((st : List ℕ) → eval σ (old ∷ []) st ≡ b ∷ st) → value σ (guarded W j body old) ≡ gate (σ W) j a b
guarded-value σ W j body old a b pa pb =
    value-top σ (guarded W j body old)
    (eval-append σ body (old ∷ Ite ∷ []) (active ∷ [])
    ∙ ap (eval σ (old ∷ Ite ∷ [])) (pa (active ∷ []))
    ∙ ap (eval σ (Ite ∷ [])) (pb (a ∷ active ∷ [])))
    ∙ ap (λ t. cond t a b) (ap truthy (ule_tests 32 (σ W) j) ∙ truthy-test (leb (σ W) j))
  where
    active : ℕ
    active = binary 32 Ule (σ W) j

-- the newest symbols hold, in the trace's environment σ, what the program's environment ρ and control w say; and a new symbol is none of
-- them
pub record Mirrors (S : ℕ) (c : Newest) (σ ρ : Env) (w : ℕ) : Type 0 where
  pub current-is : (s : ℕ) → s < S → σ (c.current s) ≡ ρ s
  pub current-old : (s : ℕ) → s < S → c.current s < c.next
  pub control-is : σ c.control ≡ w
  pub control-old : c.control < c.next

module _ (S : ℕ) (c : Newest) (σ ρ : Env) (w : ℕ) (m : Mirrors S c σ ρ w) where
  old_stays : (v x : ℕ) → x < c.next → update σ c.next v x ≡ σ x
  old_stays v x h = update_other σ c.next v x (λ e. omega arith)

  current_mirrors : (s v : ℕ) → Mirrors S (makes_current c s) (update σ c.next v) (update ρ s v) w
  current_mirrors s v = record {
    current-is = λ x h. is x h (eqb x s);
    current-old = λ x h. old x h (eqb x s);
    control-is = old_stays v c.control m.control-old ∙ m.control-is;
    control-old = omega (arith, m.control-old);
  }
    where
      is : (x : ℕ) → x < S → (b : Bool) → update σ c.next v (cond b c.next (c.current x)) ≡ cond b v (ρ x)
      is x h true = update_same σ c.next v
      is x h false = old_stays v (c.current x) (m.current-old x h) ∙ m.current-is x h

      old : (x : ℕ) → x < S → (b : Bool) → cond b c.next (c.current x) < suc c.next
      old x h true = omega arith
      old x h false = omega (arith, m.current-old x h)

  control_mirrors : (v : ℕ) → Mirrors S (makes_control c) (update σ c.next v) ρ v
  control_mirrors v = record {
    current-is = λ x h. old_stays v (c.current x) (m.current-old x h) ∙ m.current-is x h;
    current-old = λ x h. omega (arith, m.current-old x h);
    control-is = update_same σ c.next v;
    control-old = omega arith;
  }

  -- the values of the statements' expressions
  module _ (j : ℕ) (e : List Token) (o : ExprOk S e) where
    pushes : (st : List ℕ) → eval σ (rename c.current e) st ≡ value ρ e ∷ st
    pushes st = push_rename (below S) 16 σ ρ c.current e st o.0 (λ s h. m.current-is s (ltb-true s S h))

    set_value : (s : ℕ) → s < S → value σ (guarded c.control j (rename c.current e) (Symbol (c.current s))) ≡ gate w j (value ρ e)
        (ρ s)
    set_value s h =
        guarded-value σ c.control j (rename c.current e) (Symbol (c.current s)) (value ρ e) (σ (c.current s)) pushes (λ st. refl)
        ∙ (cc (m.current-is s h, m.control-is))

    check_value : value σ (guarded c.control j (rename c.current e) (Const 1)) ≡ gate w j (value ρ e) 1
    check_value = guarded-value σ c.control j (rename c.current e) (Const 1) (value ρ e) 1 pushes (λ st. refl) ∙ (cc m.control-is)

    jump-value : (g : ℕ)
        → value σ (guarded c.control j (rename c.current e ++ Const g ∷ Symbol c.control ∷ Ite ∷ []) (Symbol c.control))
        ≡ gate w j (cond (truthy (value ρ e)) g w) w
    jump-value g =
        let choose = Const g ∷ Symbol c.control ∷ Ite ∷ [] in
        guarded-value σ c.control j (rename c.current e ++ choose) (Symbol c.control)
        (cond (truthy (value ρ e)) g (σ c.control)) (σ c.control)
        (λ st. eval-append σ (rename c.current e) choose st ∙ ap (eval σ choose) (pushes st)) (λ st. refl)
        ∙ (cc m.control-is)

  exit_value : (j g : ℕ) → value σ (guarded c.control j (Const g ∷ []) (Symbol c.control)) ≡ gate w j g w
  exit_value j g =
      guarded-value σ c.control j (Const g ∷ []) (Symbol c.control) g (σ c.control) (λ st. refl) (λ st. refl)
      ∙ (cc m.control-is)

module _ (cut : Kind) where
  -- a test, and what follows it
  test-shown : (k : Kind) (p u v : ℕ) (x y : Outcome) → u ≡ v → x ≡ shown_as cut y
      → cond (truthy u) x (Failed (becomes cut k) p) ≡ shown_as cut (cond (truthy v) y (Failed k p))
  test-shown k p u v x y e q = ap (λ t. cond (truthy t) x (Failed (becomes cut k) p)) e ∙ go (truthy v)
    where
      go : (b : Bool) → cond b x (Failed (becomes cut k) p) ≡ shown_as cut (cond b y (Failed k p))
      go true = q
      go false = refl

  pub judge_gated : (S limit : ℕ) (ps : List Place) → All (PlaceOk S limit) ps → (c : Newest) (σ ρ : Env) (w : ℕ) → Mirrors S c σ ρ w
      → judge (statements cut c ps) σ ≡ shown_as cut (gated_run ps w ρ)
  unfolding judge
  judge_gated S limit [] o c σ ρ w m = refl
  judge_gated S limit (At j (Set s e) ∷ ps) o c σ ρ w m =
      let v : ℕ = gate w j (value ρ e) (ρ s) in
      ap (λ u. judge (statements cut (makes_current c s) ps) (update σ c.next u)) (set_value S c σ ρ w m j e o.0.1.1 s o.0.1.0)
      ∙ judge_gated S limit ps o.1 (makes_current c s) (update σ c.next v) (update ρ s v) w (current_mirrors S c σ ρ w m s v)
  judge_gated S limit (At j (Check k e) ∷ ps) o c σ ρ w m =
      test-shown k j _ _ (judge (statements cut c ps) σ) (gated_run ps w ρ) (check_value S c σ ρ w m j e o.0.1)
      (judge_gated S limit ps o.1 c σ ρ w m)
  judge_gated S limit (At j (Jump g e) ∷ ps) o c σ ρ w m =
      let v : ℕ = gate w j (cond (truthy (value ρ e)) g w) w in
      ap (λ u. judge (statements cut (makes_control c) ps) (update σ c.next u)) (jump-value S c σ ρ w m j e o.0.1.1 g)
      ∙ judge_gated S limit ps o.1 (makes_control c) (update σ c.next v) ρ v (control_mirrors S c σ ρ w m v)
  judge_gated S limit (At j (Exit g) ∷ ps) o c σ ρ w m =
      let v : ℕ = gate w j g w in
      ap (λ u. judge (statements cut (makes_control c) ps) (update σ c.next u)) (exit_value S c σ ρ w m j g)
      ∙ judge_gated S limit ps o.1 (makes_control c) (update σ c.next v) ρ v (control_mirrors S c σ ρ w m v)

-- ---- places below control do nothing

act_idle : (j : ℕ) (a : Action) (w : ℕ) (ρ : Env) (rest : ℕ → Env → Outcome) → j < w → act j a w ρ rest ≡ rest w ρ
act_idle j (Set s e) w ρ rest h = rw (lt-leb w j h) (ap (rest w) (update_self ρ s))
act_idle j (Check k e) w ρ rest h = rw (lt-leb w j h)
act_idle j (Jump g e) w ρ rest h = rw (lt-leb w j h)
act_idle j (Exit g) w ρ rest h = rw (lt-leb w j h)

module _ (n K r : ℕ) where
  -- what is left of a copy, with its exit
  copy_idle : (xs : List Instr) (i w : ℕ) (ρ : Env) (ps : List Place) → place_in n r i + length xs < w
      → gated_run (copy_from n K r i xs ++ ps) w ρ ≡ gated_run ps w ρ
  copy_idle [] i w ρ ps h = act_idle (place_in n r i) (Exit (end_of n K)) w ρ (gated_run ps) (omega arith)
  copy_idle (x ∷ xs) i w ρ ps h =
      act_idle (place_in n r i) (action_in n K r i x) w ρ (gated_run (copy_from n K r (suc i) xs ++ ps)) (omega arith)
      ∙ copy_idle xs (suc i) w ρ ps (omega arith)

  -- the next d instructions of a copy
  part_idle : (d : ℕ) (xs : List Instr) (i w : ℕ) (ρ : Env) (ps : List Place) → d ≤ length xs → place_in n r i + d ≤ w
      → gated_run (copy_from n K r i xs ++ ps) w ρ ≡ gated_run (copy_from n K r (i + d) (drop d xs) ++ ps) w ρ
  part_idle zero xs i w ρ ps h q = rw add-zero
  part_idle (suc d) [] i w ρ ps h q = absurd (omega arith)
  part_idle (suc d) (x ∷ xs) i w ρ ps h q =
      act_idle (place_in n r i) (action_in n K r i x) w ρ (gated_run (copy_from n K r (suc i) xs ++ ps)) (omega arith)
      ∙ part_idle d xs (suc i) w ρ ps (omega arith) (omega arith)
      ∙ ap (λ k. gated_run (copy_from n K r k (drop d xs) ++ ps) w ρ) (omega arith)

-- c whole copies
copies_idle : (is : List Instr) (K c r w : ℕ) (ρ : Env) → (r + c) * suc (length is) ≤ w → gated_run (copies_from is K c r) w ρ ≡ Ended
copies_idle is K zero r w ρ h = refl
copies_idle is K (suc c) r w ρ h =
    copy_idle (length is) K r is 0 w ρ (copies_from is K c (suc r)) (omega arith)
    ∙ copies_idle is K c (suc r) w ρ (omega arith)

-- ---- the gated run is the direct run

-- the bound's test
bound-value : (S : ℕ) (ρ : Env) (e : List Token) → ExprOk S e → value ρ (e ++ Un Zero ∷ []) ≡ test (eqb (value ρ e) 0)
bound-value S ρ e o =
    value-top ρ (e ++ Un Zero ∷ []) (eval-append ρ e (Un Zero ∷ []) [] ∙ ap (eval ρ (Un Zero ∷ [])) (eval_push (below S) 16 ρ e [] o.0))
    ∙ zero_tests 32 (value ρ e)

-- the places from instruction i of copy r on, where xs are the instructions left in it and c copies follow
abbrev on_from : List Instr → (K c r i : ℕ) → List Instr → List Place
on_from is K c r i xs = copy_from (length is) K r i xs ++ copies_from is K c (suc r)

-- with fuel f for all that is left, where the place is active: the run from there is the gated run from there
abbrev Follows : List Instr → (K f : ℕ) → Type 0
Follows is K f =
    (c r i w : ℕ) (ρ : Env) → r + c ≡ K → i ≤ length is → w ≤ place_in (length is) r i → c * suc (length is) + (suc (length is) - i) ≤ f
    → gated_run (on_from is K c r i (drop i is)) w ρ ≡ (run_from is K f i r ρ).outcome

module _ (S : ℕ) (is : List Instr) (K f : ℕ) (follows : Follows is K f) where
  abbrev n : ℕ
  n = length is

  -- an instruction of copy r that is active, and those behind it; c copies follow
  module _ (c r i w : ℕ) (xs : List Instr) (here : i < length is) (behind : drop (suc i) is ≡ xs) (active : w ≤ place_in (length is) r i)
      (copies : r + c ≡ K) (fuel : c * suc (length is) + (suc (length is) - i) ≤ suc f) where
    abbrev j : ℕ
    j = place_in n r i

    next_follows : (ρ : Env) → gated_run (on_from is K c r (suc i) xs) w ρ ≡ (run_from is K f (suc i) r ρ).outcome
    next_follows ρ = rw (← behind) (follows c r (suc i) w ρ copies (omega arith) (omega arith) (omega arith))

    forward_follows : (t : ℕ) (ρ : Env) → i < t → t ≤ n → gated_run (on_from is K c r (suc i) xs) (place_in n r t) ρ
        ≡ (run_from is K f t r ρ).outcome
    forward_follows t ρ a b =
        let d : suc i + (t - suc i) ≡ t = omega arith in
        part_idle n K r (t - suc i) xs (suc i) (place_in n r t) ρ (copies_from is K c (suc r))
        (omega (arith, ap length behind, length-drop (suc i) is)) (omega arith)
        ∙ ap (λ ys. gated_run (on_from is K c r (suc i + (t - suc i)) ys) (place_in n r t) ρ) (ap (drop (t - suc i)) (sym behind)
        ∙ drop-drop (t - suc i) (suc i) is)
        ∙ ap (λ q. gated_run (on_from is K c r q (drop q is)) (place_in n r t) ρ) d
        ∙ follows c r t (place_in n r t) ρ copies b (omega arith) (omega arith)

    back_follows : (b t : ℕ) (ρ : Env) → c ≡ suc b → t ≤ n → gated_run (on_from is K c r (suc i) xs) (place_in n (suc r) t) ρ
        ≡ (run_from is K f t (suc r) ρ).outcome
    back_follows b t ρ e h =
        ap (λ q. gated_run (on_from is K q r (suc i) xs) (place_in n (suc r) t) ρ) e
        ∙ copy_idle n K r xs (suc i) (place_in n (suc r) t) ρ (copies_from is K (suc b) (suc r))
        (omega (arith, ap length behind, length-drop (suc i) is))
        ∙ part_idle n K (suc r) t is 0 (place_in n (suc r) t) ρ (copies_from is K b (suc (suc r))) h (omega arith)
        ∙ ap (λ q. gated_run (on_from is K b (suc r) q (drop t is)) (place_in n (suc r) t) ρ) (omega arith)
        ∙ follows b (suc r) t (place_in n (suc r) t) ρ (omega arith) h (omega arith) (omega (arith, ap (λ q. q * suc n) e))

    jump_follows : (l t : ℕ) (e : List Token) (ρ : Env) → c ≡ l → t ≤ n → ExprOk S e → (b z : Bool) → leb t i ≡ b → eqb (value ρ e) 0 ≡ z
        → act j (jump_in n K r i t e) w ρ (gated_run (on_from is K c r (suc i) xs))
        ≡ (onward (step n K i r (IfThenGoto t e) ρ) r (run_from is K f)).outcome
    jump_follows l t e ρ q h o false true p z = rw (p, le-leb w j active, z) (next_follows ρ)
    jump_follows l t e ρ q h o false false p z = rw (p, le-leb w j active, z) (forward_follows t ρ (leb-false t i p) h)
    jump_follows zero t e ρ q h o true true p z =
        rw (p, le-ltb r K (omega arith), le-leb w j active, bound-value S ρ e o, z) (next_follows ρ)
    jump_follows zero t e ρ q h o true false p z = rw (p, le-ltb r K (omega arith), le-leb w j active, bound-value S ρ e o, z)
    jump_follows (suc l) t e ρ q h o true true p z = rw (p, lt-ltb r K (omega arith), le-leb w j active, z) (next_follows ρ)
    jump_follows (suc l) t e ρ q h o true false p z = rw (p, lt-ltb r K (omega arith), le-leb w j active, z) (back_follows l t ρ q h)

    step_follows : (x : Instr) (ρ : Env) → InstrOk S n x
        → act j (action_in n K r i x) w ρ (gated_run (on_from is K c r (suc i) xs))
        ≡ (onward (step n K i r x ρ) r (run_from is K f)).outcome
    step_follows (Assign s e) ρ o = rw (le-leb w j active) (next_follows (update ρ s (value ρ e)))
    step_follows (Test k e) ρ o = rw (le-leb w j active) (go (truthy (value ρ e)))
      where
        go : (b : Bool) → cond b (gated_run (on_from is K c r (suc i) xs) w ρ) (Failed k j)
            ≡ (onward (cond b (Go (suc i) r ρ) (Halt (Failed k j))) r (run_from is K f)).outcome
        go true = next_follows ρ
        go false = refl
    step_follows (IfThenGoto t e) ρ o = jump_follows c t e ρ refl o.0 o.1 (leb t i) (eqb (value ρ e) 0) refl refl

  copy_follows : (xs : List Instr) (c r i w : ℕ) (ρ : Env) → drop i is ≡ xs → All (InstrOk S (length is)) xs → r + c ≡ K
      → w ≤ place_in (length is) r i
      → c * suc (length is) + (suc (length is) - i) ≤ suc f
      → gated_run (on_from is K c r i xs) w ρ ≡ (onward (step_at (length is) K i r xs ρ) r (run_from is K f)).outcome
  copy_follows [] c r i w ρ q o k active m =
      ap (λ t. gated_run (copies_from is K c (suc r)) (cond t (end_of n K) w) ρ) (le-leb w (place_in n r i) active)
      ∙ copies_idle is K c (suc r) (end_of n K) ρ (omega (arith, ap (λ x. x * suc n) k))
  copy_follows (x ∷ xs) c r i w ρ q o k active m =
      step_follows c r i w xs (omega (arith, ap length q, length-drop i is)) (ap (λ k. drop k is) (sym (add-one i)) ∙ drop-next is i q)
      active k m x ρ o.0

run_follows : (S : ℕ) (is : List Instr) (K : ℕ) → All (InstrOk S (length is)) is → (f : ℕ) → Follows is K f
run_follows S is K o zero c r i w ρ k h active m = absurd (omega arith)
run_follows S is K o (suc f) c r i w ρ k h active m =
    copy_follows S is K f (run_follows S is K o f) (drop i is) c r i w ρ refl (all_drop (InstrOk S (length is)) i is o) k active m

pub gated_runs : (S : ℕ) (is : List Instr) (K : ℕ) (words : List ℕ) → All (InstrOk S (length is)) is
    → gated_run (places is K) 0 (env_of words) ≡ (run is K words).outcome
unfolding places run
gated_runs S is K words o =
    run_follows S is K o (suc K * suc (length is)) K 0 0 0 (env_of words) (omega arith) (omega arith) (omega arith) (omega arith)
