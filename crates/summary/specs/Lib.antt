pub mod Bar
pub mod Summary
pub mod Contract
