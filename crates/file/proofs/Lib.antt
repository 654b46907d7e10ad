pub mod FileLaws
pub mod EncodeLaws
pub mod ReadingLaws
pub mod RecordLaws
pub mod WalkLaws
pub mod WordsLaws
pub mod Turns
pub mod CutLaws
