pub mod Quota
pub mod Fault
