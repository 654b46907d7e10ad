-- All of `specs/Promised.antt`.
pub mod Promised
-- Demand 1, row by row.
pub mod ValuationLaws
pub mod ExpressionProof
pub mod RowOrder
pub mod RecordReplies
pub mod FileReplies
pub mod RepliesProof
pub mod RefusalsProof
-- Demand 3.
pub mod Demand3Proof
pub mod Demand3Cases
-- Request 2026-02.
pub mod SolverProof
-- Request 2026-13.
pub mod RaisingProof
-- Calls from C that write one after the other into one buffer.
pub mod Again
