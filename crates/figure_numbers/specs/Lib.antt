pub mod Numbers
pub mod Contract
