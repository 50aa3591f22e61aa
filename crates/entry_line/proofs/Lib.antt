pub mod FieldTextLaws
pub mod ReadLaws
pub mod OwnLaws
pub mod DecideLaws
