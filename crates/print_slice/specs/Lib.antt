-- What a reader must believe of the program, beside `show`'s definitions.
pub mod Buffers
pub mod BuffersLaws
pub mod Cases
