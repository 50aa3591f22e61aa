pub mod Appending
pub mod Recognised
pub mod Contract
