pub mod Paths
pub mod Matches
pub mod Steps
pub mod Classes
pub mod Asked
