pub mod Strings
pub mod Question
pub mod Password
pub mod Contract
