pub mod Causes
pub mod Numbers
pub mod Readings
pub mod Alike
