pub mod AppendLaws
pub mod RecogniseLaws
pub mod OpeningLaws
