-- What a reader must believe: the definitions, in document 01's order. Their laws stand beside them, or in `proofs/`.
pub mod Word
pub mod WordLaws
pub mod OperatorLaws
pub mod Number
pub mod NumberLaws
pub mod Token
pub mod TokenLaws
pub mod Expr
pub mod Eval
pub mod Cases
-- What the code's values mean in these terms.
pub mod Shown
pub mod Stack
-- Lists and tests in general.
pub mod Lists
