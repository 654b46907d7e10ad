-- What a reader must believe, beside document 01.
pub mod Text
pub mod TextLaws
pub mod SizeLaws
pub mod Answer
pub mod AnswerLaws
pub mod Cases
-- What the code's values mean in these terms.
pub mod Shown
