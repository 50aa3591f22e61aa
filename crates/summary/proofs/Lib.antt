pub mod BarLaws
pub mod LineLaws
pub mod GatherLaws
