pub mod Day
pub mod Clock
pub mod Item
pub mod Contract
