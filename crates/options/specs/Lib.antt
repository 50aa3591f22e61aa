pub mod Options
pub mod Arguments
pub mod Read
pub mod Contract
