-- What a reader must believe, beside document 01.
pub mod Interface
pub mod InterfaceLaws
pub mod Cases
-- What the code's values mean in these terms.
pub mod Shown
