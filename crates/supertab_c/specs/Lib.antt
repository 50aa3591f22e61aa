pub mod Report
pub mod Call
pub mod Record
pub mod Figures
pub mod Su
