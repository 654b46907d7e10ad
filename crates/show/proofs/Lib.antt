pub mod Exprs
pub mod Lines
pub mod Whole
