pub mod Adding
pub mod Tables
pub mod Counting
pub mod Making
pub mod Batches
pub mod Dividing
pub mod Reporting
pub mod Worked
