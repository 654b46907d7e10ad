pub mod Bodies
pub mod Held
pub mod Moves
pub mod Running
pub mod Answers
