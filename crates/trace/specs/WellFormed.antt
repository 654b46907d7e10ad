-- A trace that is read is well formed: each statement is right for what those before it allow, and its numbers fit their bytes.
use Rattle.std.specs.Prelude.{ℕ, ◌+◌, ◌≤◌, ◌<◌, ◌≡◌, Bool, List, [], ◌∷◌, length, take, drop}
use Rattle.std.proofs.Common.{arith}
use Rattle.expr.specs.declared.File.TheVariants.{Trace}
use Rattle.expr.specs.Lists.{All, all_take, all_drop}
use Rattle.expr.specs.Number.{Byte}
use Rattle.expr.specs.NumberLaws.{number_lt}
use Rattle.expr.specs.declared.token.Token.{Token}
use Rattle.expr.specs.Expr.{Whole, parse}
use Rattle.expr.specs.TokenLaws.{Holds}
use Rattle.expr.proofs.ExprLaws.{parse-accepted}
use Rattle.expr.specs.Expr.{Ok}
use Rattle.file.specs.File.{Head, input_room, header_version, header_size, header_count, Good, Accepted}
use Rattle.file.proofs.FileLaws.{records-chain, inputs-room, header_is, file-is}
use Rattle.file.specs.File.{Chain}
use Rattle.trace.specs.Trace.{Stmt, Assign, Test, Seen, at_first, see, stmt, stmts, is_trace, read_trace}
use Rattle.trace.specs.TraceLaws.{Told, Says, says-assign, says-test, says}

-- tokens that are an expression over the symbols that may be read, with numbers that fit their bytes
abbrev pub ExprOk : (may : ℕ → Bool) → List Token → Type 0
ExprOk may e = Ok may 17 0 1 e × All (Holds Trace) e

-- a statement that is right where σ is what those before it allow
abbrev pub StmtOk : (S : ℕ) → Seen → Stmt → Type 0
StmtOk S σ (Assign p x e) = (p < 65536) × (σ.least ≤ x) × (x < S + 4096) × ExprOk σ.readable e
StmtOk S σ (Test k p e) = (p < 65536) × Told σ.bounds k × ExprOk σ.readable e

abbrev pub StmtsOk : (S : ℕ) → Seen → List Stmt → Type 0
StmtsOk S σ [] = Unit {0}
StmtsOk S σ (x ∷ ts) = StmtOk S σ x × StmtsOk S (see σ x) ts

pub record IsTrace (s : List ℕ) (head : Head) (ts : List Stmt) : Type 0 where
  pub inputs : head.inputs ≤ input_room
  pub count : length ts ≡ header_count s
  pub few : length ts ≤ 4096
  pub ok : StmtsOk head.inputs (at_first head) ts

stmt-ok : (S : ℕ) (σ : Seen) (body : List ℕ) (x : Stmt) → All Byte body → stmt (S + 4096) σ body ≡ Good x → StmtOk S σ x
unfolding stmt
stmt-ok S σ [] x o h = absurd (let y : ◌≡◌ {A = ℕ} 0 1 = cc in omega arith)
stmt-ok S σ (b ∷ bs) x o h = go x (says (S + 4096) σ (b ∷ bs) (omega arith) x h)
  where
    ok : (k : ℕ) (e : List Token) → parse Trace σ.readable (drop k (b ∷ bs)) ≡ Whole e → ExprOk σ.readable e
    ok k e q = let a = parse-accepted Trace σ.readable (drop k (b ∷ bs)) e (all_drop Byte k (b ∷ bs) o) q in (a.ok, a.holds)

    go : (x : Stmt) → Says (S + 4096) σ (b ∷ bs) x → StmtOk S σ x
    go x (says-assign e k l m n p) = (number_lt 2 bs o.1, m, n, ok 5 e p)
    go x (says-test k e t c l p) = (number_lt 2 bs o.1, t, ok 3 e p)

-- what is read is well formed
pub trace_ok : (s : List ℕ) (head : Head) (ts : List Stmt) → All Byte s → read_trace s ≡ Accepted head ts → IsTrace s head ts
unfolding read_trace
trace_ok s head ts o h =
    let f = file-is is_trace 4096 stmts s head ts h in
    let g = header_is is_trace 4096 s f.header in
    let S = head.inputs in
    let c = records-chain (stmt (S + 4096)) see s (StmtOk S)
    (λ σ l m a q. stmt-ok S σ (take l (drop m s)) a (all_take Byte l (drop m s) (all_drop Byte m s o)) q) (header_count s) (header_size s)
    (at_first head) ts f.read in
    let k : length ts ≡ header_count s = c.1 in
    record {
      inputs = omega (arith, g.inputs, f.inputs, inputs-room (header_version s));
      count = k;
      few = omega (arith, g.count);
      ok = each (at_first head) ts c.0;
    }
  where
    each : (σ : Seen) (ts : List Stmt) → Chain (stmt (head.inputs + 4096)) see s (StmtOk head.inputs) σ ts
        → StmtsOk head.inputs σ ts
    each σ [] c = tt
    each σ (x ∷ ts) c = (c.0, each (see σ x) ts c.1)
