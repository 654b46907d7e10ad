-- What a slice's answer says of the inputs: bit s of the mask is set exactly if the slice reads input s, and the count says how many such s
-- there are.
use Rattle.std.specs.Prelude.{ℕ, ◌<◌, ◌≡◌, Bool, true, false, cond, List, length, leb}
use Rattle.std.proofs.Common.{arith, sym, ap, ◌∙◌}
use Rattle.expr.specs.Word.{test, bit}
use Rattle.file.specs.File.{Head, Accepted}
use Rattle.trace.specs.Trace.{Stmt, read_trace, encode_trace, reads_trace}
use Rattle.slice.specs.Slice.{slice}
use Rattle.slice.specs.MaskLaws.{count_of, mask-bit, mask-count}
use Rattle.slice.specs.Answer.{Sliced, slice_of, refusal, answered, slice_answer}

pub record Masked (S : ℕ) (kept : List Stmt) (q : Sliced) : Type 0 where
  pub bits : (s : ℕ) → s < S → bit s q.mask ≡ test (reads_trace s kept)
  pub counted : q.inputs ≡ count_of S (λ s. reads_trace s kept)

pub slice_masked : (t : List ℕ) (room : ℕ) (head : Head) (ts : List Stmt) → read_trace t ≡ Accepted head ts
    → (slice_answer t room).reply ≡ 0 → Masked head.inputs (slice ts) (slice_answer t room)
unfolding slice_answer
slice_masked t room head ts h done =
    rw h (go (leb (length (encode_trace head (slice ts))) room) (ap (λ i. (answered room i).reply) (sym h) ∙ done))
  where
    go : (b : Bool) → (cond b (slice_of head (slice ts)) (refusal 10 0)).reply ≡ 0
        → Masked head.inputs (slice ts) (cond b (slice_of head (slice ts)) (refusal 10 0))
    go true z = record {
      bits = mask-bit head.inputs (λ s. reads_trace s (slice ts));
      counted = mask-count head.inputs (λ s. reads_trace s (slice ts));
    }
    go false z = absurd (omega arith)
