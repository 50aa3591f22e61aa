pub mod PieceLaws
pub mod PrintLaws
pub mod RespondLaws
pub mod ExplainLaws
pub mod Examples
pub mod WorkedLines
