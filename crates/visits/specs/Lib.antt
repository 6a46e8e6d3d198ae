pub mod Fold
pub mod Visited
pub mod Passes
