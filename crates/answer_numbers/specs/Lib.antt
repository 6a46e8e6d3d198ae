pub mod Numbers
pub mod Limits
