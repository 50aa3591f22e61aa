pub mod RightmostLaws
pub mod PrefixLaws
pub mod JudgeLaws
pub mod AddedLaws
pub mod ReadLaws
pub mod ConditionLaws
