-- A loop over a file's records: what the rest answers, with the records before it counted, is what the whole answers; the offsets of the
-- records before it are stored.
use Rattle.std.specs.Prelude.{ℕ, suc, ◌+◌, ◌-◌, ◌≤◌, ◌<◌, ◌≡◌, refl, List, [], length, drop, set}
use native.Mathlib.Omega.{arith}
use Rattle.std.proofs.Math.Path.{sym, ap, ap₂, subst}
use Rattle.std.proofs.Common.{◌∙◌, length-drop}
use Rattle.std.proofs.lemmas.List.Edits.{sets}
use Rattle.std.proofs.Math.Seq.{length-sets}
use Rattle.file.specs.File.{header_size, after_header, Refusal, Body, Good, Bad, frame, Records, Read, Stop, record_of, records}
use Rattle.std.specs.Prelude.{Result, Ok, Err}
use Rattle.file.specs.Shown.{Reading, reply_of, fault_at, fault_in, read_count, reading_in, reading_of, offsets_from, offsets_in}
use Rattle.file.specs.Shown.{ReadRecords}
use Rattle.file.proofs.FileLaws.{reading_before, records-good, records_bad, count-good, count_bad, records-end}
use Rattle.file.proofs.FileLaws.{records-spare}
use Rattle.file.proofs.FileLaws.{offsets_length, Reached, reached-start, reached-next, reached-on, sets_snoc}
use Rattle.file.specs.declared.Reason.{Reason}
use Rattle.file.specs.declared.Reason.TheVariants as R
use Rattle.file.specs.declared.Refusal as Code
use Rattle.file.specs.declared.Unread.{Unread}

module _ {A St : Type 0} (one : St → List ℕ → Body A) (next : St → A → St) (s : List ℕ) (n : ℕ) (σ₀ : St) (off₀ : List ℕ) where
  -- the answer's reading of c records from an offset on, with k before them
  abbrev from : (k c : ℕ) → St → (at : ℕ) → Reading
  from k c σ at = reading_of (length s) (k + read_count one next c σ (drop at s)) (records one next c σ (drop at s))

  abbrev whole : Records A
  whole = records one next n σ₀ (after_header s)

  -- how many are read
  abbrev count : ℕ
  count = read_count one next n σ₀ (after_header s)

  abbrev Done : (off : List ℕ) (r : Result ℕ Unread) → Type 0
  Done off r = ReadRecords one next s n σ₀ off₀ off r

  pub record Walking (off : List ℕ) (at k : ℕ) (σ : St) : Type 0 where
    pub inside : at ≤ length s
    pub few : k ≤ n
    pub same : reading_of (length s) (k + read_count one next (n - k) σ (drop at s)) (records one next (n - k) σ (drop at s))
        ≡ reading_of (length s) (read_count one next n σ₀ (after_header s)) (records one next n σ₀ (after_header s))
    pub stored : off ≡ sets off₀ 0 (offsets_in k s)
    pub reached : Reached s k at

  -- with the code's own size of the header
  pub start : {at : ℕ} → at ≡ header_size s → header_size s ≤ length s → Walking off₀ at 0 σ₀
  unfolding offsets_from
  start e h =
      let z : n - 0 ≡ n = omega arith in
      subst (λ at. Walking off₀ at 0 σ₀) (sym e) record {
        inside = h;
        few = omega arith;
        same = ap₂ (λ m c. reading_of (length s) m (records one next c σ₀ (after_header s)))
            (ap (λ c. 0 + read_count one next c σ₀ (after_header s)) z
            ∙ (let y : 0 + read_count one next n σ₀ (after_header s) ≡ read_count one next n σ₀ (after_header s) = omega arith in y))
            z;
        stored = refl;
        reached = reached-start s;
      }

  module _ {off : List ℕ} {at k : ℕ} {σ : St} (w : Walking off at k σ) where
    pub long : length off ≡ length off₀
    long = ap length w.stored ∙ length-sets off₀ 0 (offsets_in k s)

    offset : length s - length (drop at s) ≡ at
    offset = omega (arith, length-drop at s, w.inside)

    -- a refusal after the first k records
    refused : (reason : Reason) (place : ℕ) → record { reply = reply_of reason; offset = place; count = k }
        ≡ reading_of (length s) count whole
        → {u : Unread} → u ≡ record { why = record { reason = reason; offset = place }; count = k } → Done off (Err u)
    refused reason place e {u} q = record {
      answer = ap (λ u. reading_in (Err u)) q ∙ e;
      stored = w.stored ∙ ap (λ c. sets off₀ 0 (offsets_in c s)) (sym (ap (λ u. u.count) q));
    }

    module _ (h : k < n) where
      pub left : n - k ≡ suc (n - (k + 1))
      left = omega arith

      -- with the code's own length of the record, what it finds wrong there, and the place of that
      pub refuse : {len place : ℕ} {f : Code.Refusal} (r : Refusal) → record_of (one σ) (drop at s) ≡ Bad r → len ≡ frame (drop at s)
          → fault_in (Err f) ≡ fault_at len r → place ≡ at + f.offset → place ≤ length s
          → {u : Unread} → u ≡ record { why = record { reason = f.reason; offset = place }; count = k } → Done off (Err u)
      refuse {len} {place} {f} r e le is there inside {u} q =
          let c = n - (k + 1) in
          let g = fault_at (frame (drop at s)) r in
          let same : fault_in (Err f) ≡ g = is ∙ ap (λ l. fault_at l r) le in
          let start : place ≡ at + g.from = there ∙ ap (λ f. at + f.from) same in
          let found : length s - length (drop (at + g.from) s) ≡ place = omega (arith, length-drop (at + g.from) s) in
          refused f.reason place (
          sym (
          ap (λ c. from k c σ at) left
          ∙ ap₂ (λ c p. reading_of (length s) (k + c) p) (count_bad one next s at c σ r e) (records_bad one next s at c σ r e)
          ∙ ap₂ (λ o c. record { reply = g.reply; offset = o; count = c }) found (let z : k + 0 ≡ k = omega arith in z)
          ∙ ap (λ f. record { reply = f.reply; offset = place; count = k }) (sym same))
          ∙ w.same)
          q

      -- with the code's own length of the record
      pub on : (x : A) → record_of (one σ) (drop at s) ≡ Good x → (len : ℕ) → len ≡ frame (drop at s) → at + (2 + len) ≤ length s
          → Walking (set off k at) (at + (2 + len)) (k + 1) (next σ x)
      on x e len le i =
          let f = at + (2 + frame (drop at s)) in
          let c = n - (k + 1) in
          let m = read_count one next c (next σ x) (drop f s) in
          let p = records one next c (next σ x) (drop f s) in
          subst (λ l. Walking (set off k at) (at + (2 + l)) (k + 1) (next σ x)) (sym le) record {
            inside = subst (λ l. at + (2 + l) ≤ length s) le i;
            few = omega arith;
            same =
                sym (
                ap (λ c. from k c σ at) left
                ∙ ap₂ (λ c p. reading_of (length s) (k + c) p) (count-good one next s at c σ x e) (records-good one next s at c σ x e)
                ∙ reading_before (length s) (k + suc m) x p
                ∙ ap (λ m. reading_of (length s) m p) (let z : k + suc m ≡ k + 1 + m = omega arith in z))
                ∙ w.same;
            stored =
                ap₂ (λ o j. set o j at) w.stored
                (let z : k ≡ 0 + length (offsets_in k s) = omega (arith, offsets_length k (header_size s) (after_header s)) in z)
                ∙ sym (sets_snoc off₀ 0 (offsets_in k s) at)
                ∙ sym (ap (sets off₀ 0) (reached-next s k at w.reached));
            reached = reached-on s k at w.reached;
          }

    module _ (h : n ≤ k) where
      all : k ≡ n
      all = omega (arith, w.few)

      ended : (p : Records A) → records one next 0 σ (drop at s) ≡ p → reading_of (length s) (n + 0) p ≡ reading_of (length s)
          (read_count one next n σ₀ (after_header s)) (records one next n σ₀ (after_header s))
      unfolding read_count
      ended p e =
          sym (ap₂ (λ j c. from j c σ at) all (let z : n - k ≡ 0 = omega arith in z) ∙ ap (reading_of (length s) (n + 0)) e)
          ∙ w.same

      pub done : at ≡ length s → Done off (Ok n)
      done e =
          let told : record { reply = 0; offset = 0; count = n } ≡ reading_of (length s) count whole
          = ap (λ c. record { reply = 0; offset = 0; count = c }) (let z : n ≡ n + 0 = omega arith in z)
          ∙ ended (Read []) (records-end one next s at σ (omega arith)) in
          record {
            answer = told;
            stored = w.stored ∙ ap (λ c. sets off₀ 0 (offsets_in c s)) all;
          }

      pub spare : (at ≡ length s → ⊥) → {u : Unread} → u ≡ record { why = record { reason = R.Record; offset = at }; count = n }
          → Done off (Err u)
      spare e {u} q =
          refused R.Record at (
          ap₂ (λ o c. record { reply = 5; offset = o; count = c }) (sym offset) (let z : k ≡ n + 0 = omega (arith, all) in z)
          ∙ ended (Stop 5 (drop at s)) (records-spare one next s at σ (omega (arith, e, w.inside))))
          (q ∙ ap (λ c. record { why = record { reason = R.Record; offset = at }; count = c }) (sym all))
