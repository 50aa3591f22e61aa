pub mod PrintLaws
pub mod ShowLaws
pub mod LogLaws
pub mod OutputLaws
pub mod ReadLaws
