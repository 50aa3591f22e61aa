pub mod Placing
pub mod Places
pub mod Lending
