pub mod Lengths
pub mod Levels
