pub mod ZeroEnded
pub mod Forms
pub mod Told
pub mod HostLaws
