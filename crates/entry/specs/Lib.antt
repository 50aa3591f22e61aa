pub mod Field
pub mod Entry
pub mod Path
pub mod Verdict
pub mod Contract
