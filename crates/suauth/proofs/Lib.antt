pub mod IdLaws
pub mod RuleLaws
pub mod TrimLaws
pub mod LineLaws
pub mod AnswerLaws
pub mod CutLaws
pub mod FormLaws
