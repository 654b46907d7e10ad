-- What a reader must believe, beside document 01; each definition has its laws beside it.
pub mod Table
pub mod TableLaws
pub mod Run
pub mod RunLaws
pub mod BackJumpLaws
pub mod BoundLaws
pub mod Answer
pub mod Cases
-- What the code's values mean in these terms.
pub mod Shown
