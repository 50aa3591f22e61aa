pub mod Set
pub mod Match
pub mod Contract
