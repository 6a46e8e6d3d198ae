pub mod Wholes
pub mod ReadBack
