pub mod Printed
pub mod LogText
pub mod Contract
