-- The kept records are copied: what is left of them goes behind what is written.
use Prim.Native.Nat.{ℕ, suc, ◌+◌, ◌≤◌, ◌<◌}
use native.Mathlib.Omega.{arith}
use native.Mathlib.Nat.{add-zero}
use native.Mathlib.Numerals.{add-one}
use mathlib.Core.Path.{◌≡◌, refl, sym, ap, ap₂, ◌∙◌}
use mathlib.Core.Bool.{Bool, true, false, cond}
use mathlib.Core.List.{List, [], ◌∷◌, ◌++◌}
use lib.ListN.{length, drop, get_or, length-append, drop_of_length-le}
use lib.Seq.{drop-drop, drop-cons}
use Rattle.expr.specs.Lists.{All}
use Rattle.expr.specs.Number.{Byte}
use Rattle.file.specs.File.{Body, Good, record_bytes, records_bytes}
use Rattle.file.specs.Shown.{rest_of}
use Rattle.trace.specs.Trace.{Stmt, stmt_bytes}
use Rattle.trace.specs.Shown.{symbol_room, loose, held}
use Rattle.trace.proofs.Held.{Held}
use Rattle.write.specs.Splice.{Wrote}
use Rattle.write.specs.SpliceLaws.{splice_nil, wrote_as, Ahead, ahead_start, ahead_step, ahead_end, ahead_room}
use Rattle.slice.specs.Shown.{kept, kept_bytes}
use Rattle.slice.proofs.Records.{record-part}
use Rattle.slice.proofs.Walk.{kept_none}

-- ---- a record

module _ {s : List ℕ} {at : ℕ} (h : Held symbol_room loose s at) (keep : Bool) where
  bytes_are : (b : Bool) → keep ≡ b → kept_bytes keep (held (drop at s)) ≡ cond b (record_bytes stmt_bytes h.statement) []
  bytes_are b e = ap₂ kept_bytes e h.is

  pub part-is : All Byte s → keep ≡ true → {e : List ℕ} → e ≡ rest_of s at 0 → e ≡ kept_bytes keep (held (drop at s))
  part-is o k q = record-part s at o h.statement h.is q ∙ sym (bytes_are true k)

  pub none_written : (out : List ℕ) (to : ℕ) → keep ≡ false → Wrote out to (kept_bytes keep (held (drop at s))) out to
  none_written out to e = wrote_as (sym (bytes_are false e)) (record { buffer = sym (splice_nil to out); next = sym (add-zero to) })

-- ---- the loop

pub record Copying (ts : List Stmt) (flags : List Bool) (out₀ : List ℕ) (to : ℕ) (out : List ℕ) (k at : ℕ) : Type 0 where
  pub inside : k ≤ length ts
  pub wrote : Ahead out at (records_bytes stmt_bytes (kept (drop k flags) (drop k ts))) out₀ to (records_bytes stmt_bytes (kept flags ts))

pub copying_start : (ts : List Stmt) (flags : List Bool) (out : List ℕ) (to : ℕ) → Copying ts flags out to out 0 to
copying_start ts flags out to = record { inside = omega arith; wrote = ahead_start _ _ _ }

kept-first : (b : Bool) (t : Stmt) (us : List Stmt) → records_bytes stmt_bytes (cond b (t ∷ us) us) ≡ kept_bytes b (Good t) ++ records_bytes
    stmt_bytes us
kept-first true t us = refl
kept-first false t us = refl

module _ {ts : List Stmt} {flags : List Bool} {out₀ : List ℕ} {to : ℕ} {out : List ℕ} {k at : ℕ} (w : Copying ts flags out₀ to out k at)
  where
    module _ (t : Stmt) (xs : List Stmt) (here : drop k ts ≡ t ∷ xs) (l : k < length flags) {keep : Bool} (f : keep ≡ get_or flags k false)
        {b : Body Stmt} (g : b ≡ Good t) where
      split : records_bytes stmt_bytes (kept (drop k flags) (drop k ts)) ≡ kept_bytes keep b ++ records_bytes stmt_bytes
          (kept (drop (k + 1) flags) (drop (k + 1) ts))
      split =
          let rest : xs ≡ drop (k + 1) ts = sym (sym (drop-drop 1 k ts) ∙ ap (drop 1) here) in
          ap₂ (λ fs us. records_bytes stmt_bytes (kept fs us))
          (drop-cons flags k false l ∙ ap (λ c. c ∷ drop (suc k) flags) (sym f)) here
          ∙ kept-first keep t (kept (drop (suc k) flags) xs)
          ∙ ap₂ (λ c us. kept_bytes keep c ++ records_bytes stmt_bytes us) (sym g)
          (ap₂ kept (ap (λ j. drop j flags) (sym (add-one k))) rest)

      pub copy_room : to + length (records_bytes stmt_bytes (kept flags ts)) ≤ length out₀
          → at + length (kept_bytes keep b) ≤ length out
      copy_room r =
          omega (
            arith,
            ahead_room w.wrote r,
            ap length split,
            length-append (kept_bytes keep b) (records_bytes stmt_bytes (kept (drop (k + 1) flags) (drop (k + 1) ts))),
          )

      pub copy_on : k < length ts → {out' : List ℕ} {at' : ℕ} → Wrote out at (kept_bytes keep b) out' at'
          → Copying ts flags out₀ to out' (k + 1) at'
      copy_on h v = record { inside = omega arith; wrote = ahead_step w.wrote split v }

    pub all_copied : length ts ≤ k → Wrote out₀ to (records_bytes stmt_bytes (kept flags ts)) out at
    all_copied h =
        ahead_end w.wrote (ap (λ us. records_bytes stmt_bytes (kept (drop k flags) us)) (drop_of_length-le ts {i = k} h)
        ∙ ap (records_bytes stmt_bytes) (kept_none (drop k flags)))
