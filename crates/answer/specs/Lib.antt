pub mod Answer
pub mod Meaning
pub mod Cut
pub mod Contract
