-- The laws of verdicts: 1 is unsafe, and nothing else has a place.
use Rattle.std.specs.Prelude.{ℕ, ◌≡◌, refl, ◌↔◌, true}
use Rattle.std.proofs.Common.{arith}
use Rattle.file.specs.Outcome.{Assume, Assert, Bound, Outcome, Ended, Failed, Lost, verdict, unsafe, place_of}

pub unsafe-verdict : (o : Outcome) → (verdict o ≡ 1) ↔ (unsafe o ≡ true)
unsafe-verdict Ended = (λ e. absurd (omega arith), λ e. absurd (let z : ◌≡◌ {A = ℕ} 0 1 = cc in omega arith))
unsafe-verdict (Failed Assume p) = (λ e. absurd (omega arith), λ e. absurd (let z : ◌≡◌ {A = ℕ} 0 1 = cc in omega arith))
unsafe-verdict (Failed Assert p) = (λ e. refl, λ e. refl)
unsafe-verdict (Failed Bound p) = (λ e. absurd (omega arith), λ e. absurd (let z : ◌≡◌ {A = ℕ} 0 1 = cc in omega arith))
unsafe-verdict Lost = (λ e. absurd (omega arith), λ e. absurd (let z : ◌≡◌ {A = ℕ} 0 1 = cc in omega arith))

pub no_place : (o : Outcome) → (verdict o ≡ 1 → ⊥) → place_of o ≡ 0
no_place Ended h = refl
no_place (Failed Assume p) h = refl
no_place (Failed Assert p) h = absurd (h refl)
no_place (Failed Bound p) h = refl
no_place Lost h = refl

-- an unsafe outcome is a false Assert
pub unsafe-is : (o : Outcome) → unsafe o ≡ true → o ≡ Failed Assert (place_of o)
unsafe-is Ended h = absurd (let z : ◌≡◌ {A = ℕ} 0 1 = cc in omega arith)
unsafe-is (Failed Assume p) h = absurd (let z : ◌≡◌ {A = ℕ} 0 1 = cc in omega arith)
unsafe-is (Failed Assert p) h = refl
unsafe-is (Failed Bound p) h = absurd (let z : ◌≡◌ {A = ℕ} 0 1 = cc in omega arith)
unsafe-is Lost h = absurd (let z : ◌≡◌ {A = ℕ} 0 1 = cc in omega arith)
