pub mod Rightmost
pub mod Users
pub mod Times
pub mod Condition
pub mod Contract
