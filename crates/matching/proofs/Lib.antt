pub mod FieldLaws
pub mod MatchLaws
pub mod AlternativeLaws
