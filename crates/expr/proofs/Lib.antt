pub mod Reading
pub mod Checks
pub mod Walks
pub mod Steps
pub mod Standing
pub mod Evals
pub mod ExprLaws
pub mod EvalLaws
