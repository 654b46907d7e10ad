-- What the user has been promised. The proofs stand in `proofs/`.
pub mod Promised
-- Demands 1 and 3.
pub mod Valuation
pub mod Expression
pub mod Replies
pub mod Refusals
pub mod Demand3
-- Request 2026-02: what a solver's answer says of the rule.
pub mod Solver
-- Request 2026-13: what raising the bound changes.
pub mod Raising
-- Demand 2: each public call's statement determines its answer and its buffer; document 01's marked cases, as one collection.
pub mod Determined
pub mod Marked
