pub mod ActionLaws
pub mod DefineLaws
pub mod LineLaws
