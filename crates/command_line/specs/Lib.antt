pub mod Word
pub mod Options
pub mod Operands
pub mod Request
pub mod Contract
