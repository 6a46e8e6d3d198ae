pub mod Judging
pub mod Calls
