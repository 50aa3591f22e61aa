pub mod Fault
pub mod Contract
