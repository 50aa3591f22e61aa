pub mod NumberLaws
pub mod PartLaws
pub mod PieceLaws
pub mod PrintLaws
pub mod Examples
pub mod WorkedLines
pub mod ResponseLaws
pub mod RespondLaws
