pub mod Calls
pub mod Initialized
pub mod ReadBack
