-- What a reader must believe: SMT-LIB's language and its meaning, the script of a trace, its text, and the call's answer. Their laws stand
-- in `proofs/`, but for those of SMT-LIB's operators.
pub mod Smt
pub mod SmtLaws
pub mod Script
pub mod Scope
pub mod ScriptText
pub mod Answer
pub mod Cases
-- What the code's values mean in these terms.
pub mod Shown
