pub mod ReportLaws
pub mod CallLaws
pub mod SmallLaws
pub mod RecordLaws
pub mod FigureLaws
pub mod SuWithin
pub mod SuLaws
