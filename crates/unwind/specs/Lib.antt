-- What a reader must believe, beside document 01; their laws stand in `proofs/`.
pub mod Places
pub mod Unwind
pub mod Size
pub mod Answer
pub mod Cases
-- Judging the trace is running the table.
pub mod Gated
-- What the code's values mean in these terms.
pub mod Shown
