-- What a reader must believe, beside document 01; each definition has its laws beside it.
pub mod Trace
pub mod TraceLaws
pub mod WellFormed
pub mod EncodeLaws
pub mod Judge
pub mod JudgeLaws
pub mod Asserts
pub mod AssertsLaws
pub mod Past
pub mod PastLaws
pub mod Answer
pub mod Cases
-- What the code's values mean in these terms.
pub mod Shown
