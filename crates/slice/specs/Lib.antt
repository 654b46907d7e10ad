-- What a reader must believe, beside document 01; the laws of the slice stand in `proofs/`, the others beside their definitions.
pub mod Slice
pub mod Mask
pub mod MaskLaws
pub mod Answer
pub mod AnswerLaws
pub mod Cases
-- What the code's values mean in these terms.
pub mod Shown
