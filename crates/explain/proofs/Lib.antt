pub mod PlaceLaws
pub mod RowLaws
pub mod ExplainLaws
pub mod MeaningLaws
pub mod Examples
