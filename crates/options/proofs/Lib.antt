pub mod IdLaws
pub mod ReadLaws
pub mod SetLaws
pub mod LineLaws
pub mod ArgumentLaws
