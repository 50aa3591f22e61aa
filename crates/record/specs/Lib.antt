pub mod Layout
pub mod Stored
pub mod Fault
pub mod Write
pub mod Read
pub mod Decision
pub mod Contract
