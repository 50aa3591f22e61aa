pub mod Whole
pub mod Alternative
pub mod Contract
