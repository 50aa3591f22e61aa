pub mod Figures
pub mod Feed
pub mod Contract
