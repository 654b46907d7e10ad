-- A turn of the loop over records: what a reader finds in the record at hand, and what it goes on with. The reader's own meaning of a
-- record, `now`, is still the one from the loop's start.
use Rattle.std.specs.Prelude.{ℕ, ◌+◌, ◌-◌, ◌≤◌, ◌<◌, ◌≡◌, refl, List, length, take, drop, set, Some, Err}
use Rattle.std.proofs.Common.{arith, sym, ap, ◌∙◌, subst}
use Rattle.file.specs.File.{Low, Body, Good, frame, record_of}
use Rattle.file.specs.Shown.{frame_in, fine, fault_in, fault_of, ReadRecords}
use Rattle.file.specs.declared.Refusal as Code
use Rattle.file.proofs.FileLaws.{frame-some, record-inside, record-cut, cut-length, reply-some, fault_bad, fault_inside, fault_good}
use Rattle.file.proofs.WalkLaws.{Walking, refuse, on}

module _ {A St : Type 0} {one : St → List ℕ → Body A} {next : St → A → St} {s : List ℕ} {n : ℕ} {σ₀ : St} {off₀ off : List ℕ} {at k : ℕ}
    {σ : St} (w : Walking one next s n σ₀ off₀ off at k σ) (h : k < n) {len : ℕ} (f : Some len ≡ frame_in (drop at s)) where
  is-frame : (len ≡ frame (drop at s)) × (len ≡ 0 → ⊥)
  is-frame = frame-some (drop at s) len f

  pub inside : at + (2 + len) ≤ length s
  inside = record-inside (one σ) s at len is-frame.0 is-frame.1

  module _ (now : St → List ℕ → Body A) (same : now ≡ one) where
    abbrev body : List ℕ
    body = take (at + (2 + len) - (at + 2)) (drop (at + 2) s)

    cut : record_of (now σ) (drop at s) ≡ now σ body
    cut = record-cut (now σ) s at len is-frame.0 is-frame.1

    cut_all : length body ≡ len
    cut_all = cut-length (now σ) s at len is-frame.0 is-frame.1

    as-begun : {x : Body A} → record_of (now σ) (drop at s) ≡ x → record_of (one σ) (drop at s) ≡ x
    as-begun {x} e = subst (λ o. record_of (o σ) (drop at s) ≡ x) same e

    module _ (r : Code.Refusal) (e : fault_in (Err r) ≡ fault_of (length body) (now σ body)) where
      pub points-inside : at + r.offset ≤ length s
      points-inside = omega (arith, fault_inside (length body) (now σ body) (fault_in (Err r)) e, cut_all, inside)

      pub refused : {r' : Code.Refusal} → r' ≡ record { reason = r.reason; offset = at + r.offset }
          → ReadRecords one next s n σ₀ off₀ off (Err (record { why = r'; count = k }))
      refused q =
          let b = fault_bad (length body) (now σ body) (fault_in (Err r)) e (λ z. omega (arith, z, reply-some r.reason)) in
          refuse one next s n σ₀ off₀ w h b.0 (as-begun (cut ∙ b.1)) (cut_all ∙ is-frame.0) b.2 refl points-inside
          (ap (λ r. record { why = r; count = k }) q)

    pub there : Low (now σ body) → fine ≡ fault_of (length body) (now σ body) → (x : A) × (record_of (now σ) (drop at s) ≡ Good x)
    there l e = let g = fault_good (length body) (now σ body) fine l e refl in (g.0, cut ∙ g.1)

    -- with the code's own meaning of what is next
    pub goes_on : (x : A) → record_of (now σ) (drop at s) ≡ Good x → (then : St → A → St) → then ≡ next → {σ' : St} → σ' ≡ then σ x
        → Walking one next s n σ₀ off₀ (set off k at) (at + (2 + len)) (k + 1) σ'
    goes_on x e then q {σ'} z =
        subst (λ σ. Walking one next s n σ₀ off₀ (set off k at) (at + (2 + len)) (k + 1) σ)
        (sym (subst (λ t. σ' ≡ t σ x) q z))
        (on one next s n σ₀ off₀ w h x (as-begun e) len is-frame.0 inside)
