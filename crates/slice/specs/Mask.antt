-- Document 01, "The slice": the mask of the inputs that the slice reads, and the count of its ones.
use Rattle.std.specs.Prelude.{ℕ, zero, suc, ◌+◌, ◌*◌, ◌^◌, Bool, List}
use Rattle.expr.specs.Word.{test}
use Rattle.trace.specs.Trace.{Stmt, reads_trace}

-- of n bits, bit s set where f holds of s
abbrev pub mask_of : (n : ℕ) → (f : ℕ → Bool) → ℕ
mask_of zero f = 0
mask_of (suc n) f = test (f n) * 2 ^ n + mask_of n f

-- bit s set when the trace reads input s
abbrev pub input_mask : (S : ℕ) → List Stmt → ℕ
input_mask S ts = mask_of S (λ s. reads_trace s ts)
