-- The answer to running, by the way that the code takes to it: the table is refused, the bound or the valuation is refused, the table runs.
use Prim.Native.Nat.{ℕ, suc, ◌+◌, ◌*◌, ◌≤◌, ◌<◌}
use native.Mathlib.Numerals.{add-one}
use mathlib.Core.Path.{◌≡◌, sym, ap, ap₂, ◌∙◌, subst}
use mathlib.Core.Bool.{cond}
use mathlib.Core.List.{List}
use lib.ListN.{length}
use lib.Dec.{leb, eqb}
use borrow.Author.Tests.{le-leb, lt-leb, eq-eqb, ne_eqb}
use Rattle.expr.specs.Lists.{All}
use Rattle.expr.specs.Number.{Byte}
use Rattle.expr.specs.Eval.{env_of}
use Rattle.file.specs.File.{Head, header_inputs, header_count, head_of, header_reply, Body, Accepted, Refused}
use Rattle.file.specs.Shown.{reply_of, listed}
use Rattle.file.proofs.FileLaws.{Header}
use Rattle.file.proofs.ReadingLaws as Reading
use Rattle.std.specs.Prelude.{Result, Ok, Err}
use Rattle.file.specs.declared.Reason.{Reason}
use Rattle.file.specs.declared.Unread.{Unread}
use Rattle.table.specs.Table.{Instr, instr, is_table, read_table}
use Rattle.table.specs.TableLaws.{instr-low}
use Rattle.table.specs.Run.{run_from, run}
use Rattle.table.specs.Answer.{refusal, answer_of, answered, run_answer}
use Rattle.table.specs.Shown.{ReadRecords, ReadTable, Ready}

-- ---- the table is read

abbrev one : (head : Head) (n : ℕ) → Unit {0} → List ℕ → Body Instr
one head n u bs = instr head.inputs n bs

abbrev next : Unit {0} → Instr → Unit {0}
next u x = u

abbrev first : (head : Head) → Unit {0}
first head = tt

module _ (s : List ℕ) where
  pub header_read : (reason : Reason) → reply_of reason ≡ header_reply is_table 1024 s → (off : List ℕ)
      → ReadTable s off off (Err (record { why = record { reason = reason; offset = 0 }; count = 0 }))
  unfolding read_table
  header_read = Reading.header_read is_table 1024 one next first s

  -- with the code's own numbers of inputs and records
  pub records-read : header_reply is_table 1024 s ≡ 0 → {S n : ℕ} → S ≡ header_inputs s → n ≡ header_count s
      → {off off' : List ℕ} {r : Result ℕ Unread}
      → ReadRecords s S n off off' r → ReadTable s off off' r
  unfolding read_table
  records-read h {S} {n} i e {off} {off'} {r} w = Reading.records-read is_table 1024 one next first s h
      (subst (λ n. ReadRecords s (header_inputs s) n off off' r) e (subst (λ S. ReadRecords s S n off off' r) i w))

module _ (s : List ℕ) {off off' : List ℕ} where
  pub offset-small : {u : Unread} → ReadTable s off off' (Err u) → All Byte s → u.why.offset < 65536
  unfolding read_table
  offset-small = Reading.offset-small is_table 1024 one next first s

  module _ {m : ℕ} (w : ReadTable s off off' (Ok m)) where
    pub table-accepted : read_table s ≡ Accepted (head_of s) (listed (read_table s))
    unfolding read_table
    table-accepted = Reading.is-accepted is_table 1024 one next first s w (λ head n u. instr-low head.inputs n)

    pub right-header : Header is_table 1024 s
    unfolding read_table
    right-header = Reading.right-header is_table 1024 one next first s w (λ head n u. instr-low head.inputs n)

    pub many : length (listed (read_table s)) ≡ header_count s
    unfolding read_table
    many = Reading.many is_table 1024 one next first s w (λ head n u. instr-low head.inputs n)

    pub is-ready : 1024 ≤ length off → Ready s off' m
    unfolding read_table
    is-ready = Reading.is-ready is_table 1024 one next first s w (λ head n u. instr-low head.inputs n)

-- ---- the answer

module _ (s : List ℕ) (K : ℕ) (words : List ℕ) where
  pub table_refuses : (r at : ℕ) → read_table s ≡ Refused r at → refusal r at ≡ run_answer s K words
  unfolding run_answer
  table_refuses r at e = sym (ap (answered K words) e)

  module _ (head : Head) (is : List Instr) (e : read_table s ≡ Accepted head is) where
    opened : run_answer s K words
        ≡ cond (leb K 255) (cond (eqb (length words) head.inputs) (answer_of (run is K words)) (refusal 11 0)) (refusal 8 0)
    unfolding run_answer
    opened = ap (answered K words) e

    pub bound-refused : 255 < K → refusal 8 0 ≡ run_answer s K words
    bound-refused l = sym (opened ∙ rw (lt-leb K 255 l))

    pub valuation_refused : K ≤ 255 → (length words ≡ head.inputs → ⊥) → refusal 11 0 ≡ run_answer s K words
    valuation_refused l k = sym (opened ∙ rw (le-leb K 255 l, ne_eqb (length words) head.inputs k))

    pub ran : K ≤ 255 → length words ≡ head.inputs → (n : ℕ) → n ≡ length is → (vals : List ℕ) → env_of vals ≡ env_of words
        → answer_of (run_from is K ((K + 1) * (n + 1)) 0 0 (env_of vals)) ≡ run_answer s K words
    unfolding run
    ran l k n m vals e =
        ap answer_of (
        ap₂ (λ f ρ. run_from is K f 0 0 ρ) (ap₂ (λ x y. x * y) (add-one K) (add-one n ∙ ap suc m)) e)
        ∙ sym (opened ∙ rw (le-leb K 255 l, eq-eqb (length words) head.inputs k))
