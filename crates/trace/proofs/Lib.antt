pub mod Bodies
pub mod Held
pub mod Learning
pub mod Moves
pub mod Passes
pub mod Standing
pub mod Judging
pub mod Answers
