-- The loop over statements: judging the statements that are left, with the values that are reached, is judging the whole trace.
use Prim.Native.Nat.{ℕ, ◌+◌, ◌≤◌, ◌<◌}
use native.Mathlib.Omega.{arith}
use mathlib.Core.Path.{◌≡◌, refl, sym, ap, ◌∙◌, subst}
use mathlib.Core.Bool.{Bool, true, false, cond}
use mathlib.Core.List.{List, [], ◌∷◌}
use lib.ListN.{length, drop, get_or, length-drop, drop_of_length-le}
use lib.Seq.{drop-drop}
use borrow.Author.Tests.{lt-ltb, ltb-true}
use Rattle.expr.specs.Word.{truthy}
use Rattle.expr.specs.Eval.{Env, env_of, value}
use Rattle.std.specs.Prelude.{Result, Ok, Err}
use Rattle.file.specs.Outcome.{Outcome, Ended, Failed}
use Rattle.file.specs.declared.Failure.{Failure}
use Rattle.file.specs.File.{Head, input_room, header_version, header_size, header_count, Good, Input, Accepted, Refused}
use Rattle.file.specs.Shown.{offsets_in, is_accepted, listed}
use Rattle.file.proofs.FileLaws.{inputs-room, header_is, file-is, records-chain}
use Rattle.trace.specs.Trace.{Stmt, Assign, Test, at_first, see, stmt, stmts, is_trace, read_trace}
use Rattle.trace.specs.TraceLaws.{Wider, symbol-room, stmt-at}
use Rattle.trace.specs.Judge.{judge}
use Rattle.trace.specs.Shown.{symbol_room, loose, held, Next, Halt, On, next_of, step, step_body}

-- ---- an accepted trace

pub record Loaded (s : List ℕ) (ts : List Stmt) : Type 0 where
  pub count : length ts ≡ header_count s
  pub few : length ts ≤ 4096
  pub stands : (i : ℕ) (x : Stmt) (xs : List Stmt) → drop i ts ≡ x ∷ xs
      → held (drop (get_or (offsets_in (header_count s) s) i 0) s) ≡ Good x

pub loaded : (s : List ℕ) → is_accepted (read_trace s) ≡ true → Loaded s (listed (read_trace s))
unfolding read_trace
loaded s h = go (read_trace s) refl h
  where
    wide : (head : Head) → head.inputs ≤ input_room → Wider (head.inputs + 4096) (at_first head) symbol_room loose
    wide head k = record {
      higher = omega (arith, symbol-room);
      lower = omega arith;
      reads = λ x q. lt-ltb x symbol_room (omega (arith, symbol-room, ltb-true x head.inputs q));
      tells = λ t. refl;
    }

    go : (x : Input Stmt) → read_trace s ≡ x → is_accepted x ≡ true → Loaded s (listed (read_trace s))
    go (Accepted head ts) e h =
        let f = file-is is_trace 4096 stmts s head ts e in
        let g = header_is is_trace 4096 s f.header in
        let S = head.inputs in
        let k : length ts ≡ header_count s = (records-chain (stmt (S + 4096)) see s (λ σ a. Unit {0}) (λ σ l m a q. tt) (header_count s)
        (header_size s) (at_first head) ts f.read).1 in
        subst (Loaded s) (sym (ap listed e)) (record {
          count = k;
          few = omega (arith, g.count);
          stands = stmt-at s S (header_count s) (header_size s) (at_first head)
              (wide head (omega (arith, g.inputs, f.inputs, inputs-room (header_version s)))) ts f.read;
        })
    go (Refused r f) e h = absurd (let z : ◌≡◌ {A = ℕ} 0 1 = cc in omega arith)

-- ---- one statement

abbrev onward : Next → List Stmt → Outcome
onward (Halt o) ts = o
onward (On ρ) ts = judge ts ρ

judge-step : (x : Stmt) (ts : List Stmt) (ρ : Env) → judge (x ∷ ts) ρ ≡ onward (step x ρ) ts
unfolding judge
judge-step (Assign p x e) ts ρ = refl
judge-step (Test k p e) ts ρ = go (truthy (value ρ e))
  where
    go : (b : Bool) → cond b (judge ts ρ) (Failed k p) ≡ onward (cond b (On ρ) (Halt (Failed k p))) ts
    go true = refl
    go false = refl

-- ---- the loop

-- k statements are judged, with the values that they have left
pub record Judging (ts : List Stmt) (cells₀ cells : List ℕ) (k : ℕ) : Type 0 where
  pub inside : k ≤ length ts
  pub long : length cells ≡ length cells₀
  pub same : judge (drop k ts) (env_of cells) ≡ judge ts (env_of cells₀)

pub start : (ts : List Stmt) (cells : List ℕ) → Judging ts cells cells 0
start ts cells = record { inside = omega arith; long = refl; same = refl }

pub end : {ts : List Stmt} {cells₀ cells : List ℕ} {k : ℕ} → Judging ts cells₀ cells k → length ts ≤ k
    → Ended ≡ judge ts (env_of cells₀)
unfolding judge
end {ts = ts} {cells = cells} {k = k} w h = sym (ap (λ xs. judge xs (env_of cells)) (drop_of_length-le ts {i = k} h)) ∙ w.same

module _ (s off : List ℕ) (n : ℕ) (ts : List Stmt) (l : Loaded s ts) (q : n ≡ header_count s)
    (st : (i : ℕ) → i < n → get_or off i 0 ≡ get_or (offsets_in n s) i 0) where
  pub record Here (k : ℕ) : Type 0 where
    pub statement : Stmt
    pub after : List Stmt
    pub is-here : drop k ts ≡ statement ∷ after
    pub good : held (drop (get_or off k 0) s) ≡ Good statement

  pub here : (k : ℕ) → k < n → Here k
  here k h = go (drop k ts) refl
    where
      go : (ys : List Stmt) → drop k ts ≡ ys → Here k
      go [] e = absurd (omega (arith, ap length e, length-drop k ts, l.count))
      go (x ∷ xs) e = record {
        statement = x;
        after = xs;
        is-here = e;
        good = ap (λ o. held (drop o s)) (st k h ∙ ap (λ n. get_or (offsets_in n s) k 0) q) ∙ l.stands k x xs e;
      }

  module _ (cells₀ : List ℕ) {cells : List ℕ} {k : ℕ} (w : Judging ts cells₀ cells k) (h : k < n) (m : Result (Unit {0}) Failure)
      (cells' : List ℕ) (moved : next_of m (env_of cells') ≡ step_body (held (drop (get_or off k 0) s)) (env_of cells)) where
    abbrev x : Stmt
    x = (here k h).statement

    abbrev xs : List Stmt
    xs = (here k h).after

    stepped : next_of m (env_of cells') ≡ step x (env_of cells)
    stepped = moved ∙ ap (λ b. step_body b (env_of cells)) (here k h).good

    whole : judge ts (env_of cells₀) ≡ onward (next_of m (env_of cells')) xs
    whole =
        sym w.same
        ∙ ap (λ ys. judge ys (env_of cells)) (here k h).is-here
        ∙ judge-step x xs (env_of cells)
        ∙ ap (λ y. onward y xs) (sym stepped)

    pub halts : (f : Failure) → m ≡ Err f → Failed f.kind f.place ≡ judge ts (env_of cells₀)
    halts f e = sym (whole ∙ ap (λ m. onward (next_of m (env_of cells')) xs) e)

    pub goes_on : length cells' ≡ length cells → m ≡ Ok tt → Judging ts cells₀ cells' (k + 1)
    goes_on kept e = record {
      inside = omega (arith, l.count);
      long = kept ∙ w.long;
      same = ap (λ ys. judge ys (env_of cells')) left ∙ sym (whole ∙ ap (λ m. onward (next_of m (env_of cells')) xs) e);
    }
      where
        left : drop (k + 1) ts ≡ xs
        left = sym (drop-drop 1 k ts) ∙ ap (drop 1) (here k h).is-here
