pub mod SetLaws
pub mod MatchLaws
pub mod BudgetLaws
pub mod SearchLaws
