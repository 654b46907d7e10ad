-- What writers leave in a buffer.
pub mod Splice
pub mod SpliceLaws
-- Text: letters and numbers.
pub mod Ascii
pub mod Decimal
pub mod DecimalLaws
pub mod Cases
-- What the code's values mean in these terms.
pub mod Shown
