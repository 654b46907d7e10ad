-- What the code's values mean: its answers as functions of the definitions.
use Rattle.std.specs.Prelude.{ℕ, ◌+◌, ◌/◌, ◌%◌, ◌≡◌, Bool, true, false, cond, ◌||◌, List, [], ◌∷◌, length, get_or, set, eqb}
use Rattle.std.specs.Prelude.{Result, Ok, Err}
use Rattle.expr.specs.Word.{bit}
use Rattle.expr.specs.Eval.{reads}
use Rattle.file.specs.File.{Body, Good, Bad, record_bytes, records_bytes}
use Rattle.trace.specs.declared.read.Action.{Action}
use Rattle.trace.specs.declared.read.Action.TheVariants as A
use Rattle.trace.specs.Trace.{Stmt, Assign, Test, reads_trace, stmt_bytes}
use Rattle.trace.specs.Shown.{expr_of}
use Rattle.trace.specs.Asserts.{is_assert}
use Rattle.slice.specs.Slice.{slice}
use Rattle.file.specs.Shown.{reply_of}
use Rattle.file.specs.declared.Refusal.{Refusal}
use Rattle.slice.specs.Answer.{refusal, numbers}
use Rattle.slice.specs.declared.Answer.{Answer}
use Rattle.slice.specs.declared.back.Kept.{Kept}
use Rattle.slice.specs.declared.sets.Symbols.{Symbols}

-- ---- a set of symbols

-- symbol x is bit x % 64 of word x / 64
unfoldable pub in_set : (set : Symbols) (x : ℕ) → Bool
in_set set x = eqb (bit (x % 64) (get_or set.words (x / 64) 0)) 1

-- ---- a statement that a record holds

abbrev pub reads_in : (x : ℕ) → Body Stmt → Bool
reads_in x (Good t) = reads x (expr_of t)
reads_in x (Bad r) = false

-- it is kept, where `asserts` says if an Assert follows, and `needed` what is read behind it
abbrev pub keep_stmt : (asserts : Bool) (needed : ℕ → Bool) → Stmt → Bool
keep_stmt asserts needed (Assign p x e) = needed x
keep_stmt asserts needed (Test k p e) = is_assert k || asserts

-- by what the code has of it
abbrev pub keep_by : (asserts : Bool) (needed : ℕ → Bool) → Action → Bool
keep_by asserts needed (A.Assign x) = needed x
keep_by asserts needed (A.Test k) = is_assert k || asserts

abbrev pub keep_in : (asserts : Bool) (needed : ℕ → Bool) → Body Stmt → Bool
keep_in asserts needed (Good t) = keep_stmt asserts needed t
keep_in asserts needed (Bad r) = false

abbrev pub asserts_in : Body Stmt → Bool
asserts_in (Good (Assign p x e)) = false
asserts_in (Good (Test k p e)) = is_assert k
asserts_in (Bad r) = false

abbrev pub asserts_by : Action → Bool
asserts_by (A.Assign x) = false
asserts_by (A.Test k) = is_assert k

-- ---- the walk back

-- the statement k, which is b, of whose bytes its record has `size`
pub record Stepped (b : Body Stmt) (size k : ℕ) (behind : Kept) (kept : List Bool) (needed : ℕ → Bool) (kept' : List Bool)
    (needed' : ℕ → Bool) (r : Kept) : Type 0 where
  pub asserts : r.asserts ≡ (asserts_in b || behind.asserts)
  pub keeps : (keep_in behind.asserts needed b ≡ true) → (kept' ≡ set kept k true) × (r.count ≡ behind.count + 1)
      × (r.size ≡ behind.size + size)
      × ((x : ℕ) → needed' x ≡ (reads_in x b || needed x))
  pub drops : (keep_in behind.asserts needed b ≡ false) → (kept' ≡ kept) × (r.count ≡ behind.count) × (r.size ≡ behind.size)
      × (needed' ≡ needed)

-- those of the statements whose entries are set
abbrev pub kept : (flags : List Bool) → List Stmt → List Stmt
kept [] ts = []
kept (b ∷ flags) [] = []
kept (b ∷ flags) (t ∷ ts) = cond b (t ∷ kept flags ts) (kept flags ts)

pub record WalkedBack (ts : List Stmt) (flags : List Bool) (needed : ℕ → Bool) (r : Kept) : Type 0 where
  pub those : kept flags ts ≡ slice ts
  pub count : r.count ≡ length (slice ts)
  pub size : r.size ≡ length (records_bytes stmt_bytes (slice ts))
  pub reads : (x : ℕ) → needed x ≡ reads_trace x (slice ts)

-- the bytes of a record that is kept, none of another
abbrev pub kept_bytes : (keep : Bool) → Body Stmt → List ℕ
kept_bytes keep (Good t) = cond keep (record_bytes stmt_bytes t) []
kept_bytes keep (Bad r) = []

-- ---- the answer

-- that of a slice that is written, or of a refusal
abbrev pub answer_in : Result Answer Refusal → Answer
answer_in (Ok a) = a
answer_in (Err f) = numbers (refusal (reply_of f.reason) f.offset)
