-- The laws of the printer's answer: 10 exactly where the buffer is shorter than the text, and then nothing is written; else the text is
-- whole, and it stands inside the buffer.
use Rattle.std.specs.Prelude.{ℕ, ◌≤◌, ◌<◌, ◌≡◌, refl, ◌↔◌, Bool, true, false, cond, List, drop, leb}
use Rattle.std.proofs.Common.{arith, leb-true, leb-false, le-leb}
use Rattle.std.proofs.Math.Path.{ap}
use Rattle.std.proofs.Math.ListN.{length, length-append}
use Rattle.write.specs.Splice.{over}
use Rattle.write.specs.declared.Written.{Written}
use Rattle.show.specs.Text.{printed}
use Rattle.show.specs.Answer.{Shown, refusal, fitting, show_answer, numbers, SliceShown}

-- the answer by the test of the room
by-room : (P : Shown → Type 0) (text : List ℕ) (room : ℕ)
    → (length text ≤ room → P (record { reply = 0; offset = 0; bytes = text })) → (room < length text → P (refusal 10 0))
    → P (fitting room text)
by-room P text room enough short = go (leb (length text) room) refl
  where
    go : (b : Bool) → leb (length text) room ≡ b → P (cond b (record { reply = 0; offset = 0; bytes = text }) (refusal 10 0))
    go true e = enough (leb-true (length text) room e)
    go false e = short (leb-false (length text) room e)

module _ (input out out' : List ℕ) (r : Written) (s : SliceShown input out out' r) where
  -- refused 10, exactly where the buffer is shorter than the text
  pub show_refused : (r.reply ≡ 10) ↔ (length out < length (printed input))
  unfolding show_answer
  show_refused =
      by-room (λ q. (r ≡ numbers q) → (r.reply ≡ 10) ↔ (length out < length (printed input))) (printed input) (length out)
      (λ l e. (λ t. absurd (omega (arith, ap (λ a. a.reply) e)), λ m. absurd (omega arith)))
      (λ l e. (λ t. l, λ m. ap (λ a. a.reply) e)) s.answer

  -- and then the buffer is as it was
  pub show_rest : (r.reply ≡ 0 → ⊥) → (r.length ≡ 0) × (out' ≡ out)
  unfolding show_answer
  show_rest h =
      by-room (λ q. (r ≡ numbers q) → (out' ≡ over q.bytes out) → (r.length ≡ 0) × (out' ≡ out)) (printed input) (length out)
      (λ l e b. absurd (h (ap (λ a. a.reply) e))) (λ l e b. (ap (λ a. a.length) e, b)) s.answer s.buffer

  pub shown-inside : r.length ≤ length out'
  unfolding show_answer
  shown-inside =
      by-room (λ q. (r ≡ numbers q) → (out' ≡ over q.bytes out) → r.length ≤ length out') (printed input) (length out)
      (λ l e b. omega (arith, ap (λ a. a.length) e, ap length b, length-append (printed input) (drop (length (printed input)) out)))
      (λ l e b. omega (arith, ap (λ a. a.length) e)) s.answer s.buffer

-- a buffer that holds the text gets it
pub show_done : (input : List ℕ) (room : ℕ) → length (printed input) ≤ room
    → show_answer input room ≡ record { reply = 0; offset = 0; bytes = printed input }
unfolding show_answer
show_done input room h =
    ap (λ b. cond b (record { reply = 0; offset = 0; bytes = printed input }) (refusal 10 0)) (le-leb (length (printed input)) room h)
