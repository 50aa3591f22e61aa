pub mod CutLaws
pub mod MeaningLaws
pub mod Worked
pub mod GrantLaws
pub mod CallLaws
pub mod AlikeLaws
