-- A file, header and record after record: it is accepted where none of its rows holds, and refused with the first row's number and offset.
use Prim.Native.Nat.{ℕ, zero, suc, ◌+◌, ◌-◌, ◌*◌, ◌≤◌, ◌<◌}
use native.Mathlib.Omega.{arith}
use native.Mathlib.Decide.{dec_lt}
use mathlib.Core.Path.{◌≡◌, refl, sym, ap, ap₂, ◌∙◌, subst}
use mathlib.Core.Bool.{Bool, true, false, cond, ◌&&◌}
use mathlib.Core.List.{List}
use lib.ListN.{length, drop, length-drop}
use lib.Dec.{eqb, leb}
use borrow.Author.Tests.{eqb-true, eqb-false, leb-true, leb-false, le-leb}
use Rattle.expr.specs.declared.File.{File}
use Rattle.expr.specs.declared.File.TheVariants.{Table, Trace}
use Rattle.expr.specs.Lists.{and_both, both_and}
use Rattle.file.specs.File.{Head, inputs_limit, header_version, header_size, header_total, header_inputs, header_count, head_of}
use Rattle.file.specs.File.{header_reply, Body}
use Rattle.file.specs.File.{Refusal, AtRecord, AtToken, Good, Bad, frame, Records, Read, Stop, Input, Accepted, Refused, record_of}
use Rattle.file.specs.File.{before, records, finish, read_file}
use Rattle.file.specs.Shown.{fault_at}
use Rattle.file.proofs.FileLaws.{records-good, records_bad, records-end, records-spare, header_is, file-refused, file-read}
use Rattle.table.specs.Table.{instr, read_table}
use Rattle.trace.specs.Trace.{at_first, see, stmt, read_trace}
use Rattle.demands.specs.Replies.{record_at, length_at, known, limit, Call, file_of, bytes_of, Framing, Ruling, Wording, Row, Short}
use Rattle.demands.specs.Replies.{Version}
use Rattle.demands.specs.Replies.{Total, Limits, Frame, Rule, Expression, Spare, number, When, Points, rank, FirstRow}
use Rattle.demands.proofs.RowOrder.{Clear, clear-past}
use Rattle.demands.proofs.RecordReplies.{Decided, is-good, is_framing, is_ruling, is_wording, framing_inside, table_decided, Knows}
use Rattle.demands.proofs.RecordReplies.{knows_start, trace_decided, knows_next}

-- a call's first row has this number and offset
abbrev pub RefusedBy : Call → (reply at : ℕ) → Type 0
RefusedBy c reply at = (row : Row) × (number row ≡ reply) × Points c row at × FirstRow c row

-- a call's file is refused by the first row, or none of the rows 1 to 7 holds
abbrev pub FileReply : {A : Type 0} → Call → Input A → Type 0
FileReply c (Accepted head xs) = Clear c (5 + 3 * header_count (bytes_of c))
FileReply c (Refused reply at) = RefusedBy c reply at

-- ---- the header

data HeaderReply (c : Call) : ℕ → Type 0 where
  header_passed : Clear c 4 → HeaderReply c 0
  header_refused : (row : Row) → FirstRow c row → Points c row 0 → (number row ≡ 0 → ⊥) → HeaderReply c (number row)

module _ (c : Call) where
  abbrev s : List ℕ
  s = bytes_of c

  abbrev n : ℕ
  n = header_count (bytes_of c)

  abbrev S : ℕ
  S = header_inputs (bytes_of c)

  abbrev most : ℕ
  most = inputs_limit (header_version (bytes_of c))

  first : (row : Row) → Clear c (rank n row) → When c row → FirstRow c row
  first row clear holds = record { holds = holds; none_before = clear }

  header-reply : HeaderReply c (header_reply (known (file_of c)) (limit (file_of c)) s)
  unfolding header_reply
  header-reply =
      go (leb (header_size s) (length s)) refl (known (file_of c) (header_version s)) refl (eqb (header_total s) (length s)) refl
      (leb S most && leb n (limit (file_of c))) refl
    where
      no_short : leb (header_size s) (length s) ≡ true → Clear c 1
      no_short p = clear-past c Short 1 tt (omega arith) (λ other l w. omega arith)
          (λ h. omega (arith, leb-true (header_size s) (length s) p))

      no_version : Clear c 1 → known (file_of c) (header_version s) ≡ true → Clear c 2
      no_version clear p =
          clear-past c Version 2 tt (omega arith) clear (λ h. let z : ◌≡◌ {A = ℕ} 0 1 = (let q = sym p ∙ h in cc) in omega arith)

      no_total : Clear c 2 → eqb (header_total s) (length s) ≡ true → Clear c 3
      no_total clear p = clear-past c Total 3 tt (omega arith) clear (λ h. h (eqb-true (header_total s) (length s) p))

      within : (leb S most && leb n (limit (file_of c))) ≡ true → (S ≤ most) × (n ≤ limit (file_of c))
      within p =
          let k = and_both (leb S most) (leb n (limit (file_of c))) p in (leb-true S most k.0, leb-true n (limit (file_of c)) k.1)

      no_limits : Clear c 3 → (leb S most && leb n (limit (file_of c))) ≡ true → Clear c 4
      no_limits clear p = clear-past c Limits 4 tt (omega arith) clear (λ h. h (within p))

      outside : (leb S most && leb n (limit (file_of c))) ≡ false → (S ≤ most) × (n ≤ limit (file_of c)) → ⊥
      outside p h =
          let q = sym p ∙ both_and (leb S most) (leb n (limit (file_of c))) (le-leb S most h.0) (le-leb n (limit (file_of c)) h.1) in
          let z : ◌≡◌ {A = ℕ} 0 1 = cc in omega arith

      go : (x : Bool) → leb (header_size s) (length s) ≡ x → (y : Bool) → known (file_of c) (header_version s) ≡ y → (z : Bool)
          → eqb (header_total s) (length s) ≡ z
          → (w : Bool) → (leb S most && leb n (limit (file_of c))) ≡ w → HeaderReply c (cond x (cond y (cond z (cond w 0 4) 3) 2) 1)
      go false p y q z r w t =
          header_refused Short (first Short (λ other l w. omega arith) (leb-false (header_size s) (length s) p)) refl (λ e. omega arith)
      go true p false q z r w t =
          header_refused Version (first Version (no_short p) q) refl (λ e. omega arith)
      go true p true q false r w t =
          header_refused Total (first Total (no_version (no_short p) q) (eqb-false (header_total s) (length s) r)) refl
          (λ e. omega arith)
      go true p true q true r false t =
          header_refused Limits (first Limits (no_total (no_version (no_short p) q) r) (outside t)) refl (λ e. omega arith)
      go true p true q true r true t = header_passed (no_limits (no_total (no_version (no_short p) q) r) t)

-- ---- record after record

module _ {A St : Type 0} (c : Call) (one : St → List ℕ → Body A) (next : St → A → St) (Inv : ℕ → St → Type 0)
    (decided : (k : ℕ) (σ : St) → Inv k σ
    → Decided (file_of c) (bytes_of c) k (record_at (bytes_of c) k) (record_of (one σ) (drop (record_at (bytes_of c) k) (bytes_of c))))
    (kept : (k : ℕ) (σ : St) → Inv k σ → (a : A) → record_of (one σ) (drop (record_at (bytes_of c) k) (bytes_of c)) ≡ Good a
    → Inv (suc k) (next σ a)) where
  abbrev at : ℕ → ℕ
  at k = record_at (bytes_of c) k

  -- the reply to the records that are left
  abbrev Reply : Records A → Type 0
  Reply p = FileReply c (finish (length (bytes_of c)) (head_of (bytes_of c)) p)

  reply-before : (a : A) (p : Records A) → Reply p → Reply (before a p)
  reply-before a (Read xs) h = h
  reply-before a (Stop r bs) h = h

  -- a refusal with the bytes from where the row points on
  reply_stop : (row : Row) (o : ℕ) → o ≤ length (s c) → Points c row o → When c row → Clear c (rank (n c) row)
      → Reply (Stop (number row) (drop o (s c)))
  reply_stop row o h e w clear = (
    row,
    refl,
    subst (Points c row) (let z : o ≡ length (s c) - length (drop o (s c)) = omega (arith, length-drop o (s c)) in z) e,
    first c row clear w,
  )

  nothing_left : (k : ℕ) (σ : St) → k ≡ n c → at k ≤ length (s c) → Clear c (4 + 3 * k) → Reply (records one next 0 σ (drop (at k) (s c)))
  nothing_left k σ e l clear =
      elim (dec_lt (at k) (length (s c))) [
        | yes h ↦ subst Reply (sym (records-spare one next (s c) (at k) σ h))
            (reply_stop Spare (at k) l (ap at e) (subst (λ m. at m < length (s c)) e h) here)
        | no h ↦
            subst Reply (sym (records-end one next (s c) (at k) σ (omega arith)))
            (clear-past c Spare (5 + 3 * n c) tt (omega arith) here (λ w. h (subst (λ m. at m < length (s c)) (sym e) w)))
      ]
    where
      here : Clear c (4 + 3 * n c)
      here = subst (λ m. Clear c (4 + 3 * m)) e clear

  -- one of the rows of record k, or none of them
  module _ (j k : ℕ) (σ : St) (more : k < n c) (l : at k ≤ length (s c)) (clear : Clear c (4 + 3 * k)) where
    no_frame : (Framing (file_of c) (s c) (at k) → ⊥) → Clear c (5 + 3 * k)
    no_frame h = clear-past c (Frame k) (5 + 3 * k) more (omega arith) clear (λ w. h w.1)

    no_rule : Clear c (5 + 3 * k) → (Ruling (file_of c) (s c) k (at k) → ⊥) → Clear c (6 + 3 * k)
    no_rule before h = clear-past c (Rule k) (6 + 3 * k) more (omega arith) before (λ w. h w.1)

    no_wording : Clear c (6 + 3 * k) → ((o : ℕ) → Wording (file_of c) (s c) k (at k) o → ⊥) → Clear c (4 + 3 * suc k)
    no_wording before h = clear-past c (Expression k) (4 + 3 * suc k) more (omega arith) before (λ w. h w.1.0 w.1.1)

    -- the bytes from a refused record on, or from a token of it
    stopped : (r : Refusal) → record_of (one σ) (drop (at k) (s c)) ≡ Bad r → (row : Row)
        → number row ≡ (fault_at (frame (drop (at k) (s c))) r).reply → (o : ℕ) → o ≡ at k + (fault_at (frame (drop (at k) (s c))) r).from
        → o ≤ length (s c) → Points c row o → When c row → Clear c (rank (n c) row) → Reply (records one next (suc j) σ (drop (at k) (s c)))
    stopped r e row m o p inside points holds before =
        subst Reply (ap₂ {C = Records A} (λ m o. Stop m (drop o (s c))) m p ∙ sym (records_bad one next (s c) (at k) j σ r e))
        (reply_stop row o inside points holds before)

    record-reply : (x : Body A) → record_of (one σ) (drop (at k) (s c)) ≡ x → Decided (file_of c) (s c) k (at k) x
        → ((a : A) → record_of (one σ) (drop (at k) (s c)) ≡ Good a → at (suc k) ≤ length (s c) → Clear c (4 + 3 * suc k)
        → Reply (records one next j (next σ a) (drop (at (suc k)) (s c))))
        → Reply (records one next (suc j) σ (drop (at k) (s c)))
    record-reply x e (is_framing f) rest = stopped (AtRecord 5) e (Frame k) refl (at k) (omega arith) l refl (more, f) clear
    record-reply x e (is_ruling f r) rest = stopped (AtRecord 6) e (Rule k) refl (at k) (omega arith) l refl (more, r) (no_frame f)
    record-reply x e (is_wording left f r short w) rest =
        let inside = framing_inside (file_of c) (s c) (at k) f in
        stopped (AtToken left) e (Expression k) refl (at k + (2 + length_at (s c) (at k)) - left) (omega (arith, inside.1))
        (omega (arith, inside.0)) w (more, (at k + (2 + length_at (s c) (at k)) - left, w)) (no_rule (no_frame f) r)
    record-reply x e (is-good a f r w) rest =
        let inside = framing_inside (file_of c) (s c) (at k) f in
        subst Reply
        (sym (records-good one next (s c) (at k) j σ a e ∙ ap (λ m. before a (records one next j (next σ a) (drop (at k + (2 + m)) (s c))))
        inside.1))
        (reply-before a (records one next j (next σ a) (drop (at (suc k)) (s c)))
        (rest a e inside.0 (no_wording (no_rule (no_frame f) r) w)))

  records-reply : (j k : ℕ) (σ : St) → Inv k σ → k + j ≡ n c → at k ≤ length (s c) → Clear c (4 + 3 * k)
      → Reply (records one next j σ (drop (at k) (s c)))
  records-reply zero k σ i e l clear = nothing_left k σ (omega arith) l clear
  records-reply (suc j) k σ i e l clear =
      record-reply j k σ (omega arith) l clear (record_of (one σ) (drop (at k) (s c))) refl (decided k σ i)
      (λ a g. records-reply j (suc k) (next σ a) (kept k σ i a g) (omega arith))

-- ---- the file

-- any file: what its reader knows after k records is `Inv k`, and each record is read as its rows decide
module _ {A St : Type 0} (c : Call) (F : File) (is : file_of c ≡ F) (one : (head : Head) (n : ℕ) → St → List ℕ → Body A)
    (next : St → A → St)
    (start : (head : Head) → St)
    (Inv : ℕ → St → Type 0) (started : Inv 0 (start (head_of (bytes_of c))))
    (decided : (k : ℕ) (σ : St) → Inv k σ → Decided F (bytes_of c) k (record_at (bytes_of c) k)
    (record_of (one (head_of (bytes_of c)) (header_count (bytes_of c)) σ) (drop (record_at (bytes_of c) k) (bytes_of c))))
    (kept : (k : ℕ) (σ : St) → Inv k σ → (a : A)
    → record_of (one (head_of (bytes_of c)) (header_count (bytes_of c)) σ) (drop (record_at (bytes_of c) k) (bytes_of c)) ≡ Good a
    → Inv (suc k) (next σ a)) where
  abbrev body : (head : Head) (n : ℕ) → List ℕ → Records A
  body head n bs = records (one head n) next n (start head) bs

  file-reply : FileReply c (read_file (known F) (limit F) body (bytes_of c))
  file-reply =
      go (header_reply (known F) (limit F) (s c)) refl (subst (λ G. HeaderReply c (header_reply (known G) (limit G) (s c))) is
      (header-reply c))
    where
      go : (r : ℕ) → header_reply (known F) (limit F) (s c) ≡ r → HeaderReply c r → FileReply c (read_file (known F) (limit F) body (s c))
      go r e (header_refused row f o z) =
          subst (FileReply c) (sym (file-refused (known F) (limit F) body (s c) (number row) e z)) (row, refl, o, f)
      go r e (header_passed clear) =
          let reader = one (head_of (s c)) (n c) in
          subst (FileReply c) (sym (file-read (known F) (limit F) body (s c) e))
          (records-reply c reader next Inv
          (λ k σ i. subst (λ G. Decided G (s c) k (record_at (s c) k) (record_of (reader σ) (drop (record_at (s c) k) (s c)))) (sym is)
          (decided k σ i))
          kept (n c) 0 (start (head_of (s c))) started (omega arith) (header_is (known F) (limit F) (s c) e).long clear)

pub table-reply : (c : Call) → file_of c ≡ Table → FileReply c (read_table (bytes_of c))
unfolding read_table
table-reply c is =
    file-reply {St = Unit {0}} c Table is (λ head n u. instr head.inputs n) (λ u a. u) (λ head. tt) (λ k u. Unit {0}) tt
    (λ k u i. table_decided (bytes_of c) k (record_at (bytes_of c) k)) (λ k u i a g. tt)

pub trace_reply : (c : Call) → file_of c ≡ Trace → FileReply c (read_trace (bytes_of c))
unfolding read_trace
trace_reply c is =
    file-reply c Trace is (λ head n. stmt (head.inputs + 4096)) see at_first (Knows (bytes_of c))
    (knows_start (bytes_of c)) (λ k σ w. trace_decided (bytes_of c) k (record_at (bytes_of c) k) σ w)
    (λ k σ w a g. knows_next (bytes_of c) k σ w (header_inputs (bytes_of c) + 4096) a g)
