pub mod File
pub mod Outcome
pub mod OutcomeLaws
pub mod Words
pub mod Cases
pub mod Shown
