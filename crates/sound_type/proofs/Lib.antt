-- Laws of names, of heads, of the pass and of what acceptance adds.
pub mod Names
pub mod Paths
pub mod Heads
pub mod Rests
pub mod Scans
pub mod Steps
pub mod Accepted
