pub mod State
pub mod Colon
pub mod Read
pub mod Contract
