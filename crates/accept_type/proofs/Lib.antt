-- Laws of heads that were read and of the walk.
pub mod Scans
pub mod Walks
pub mod Plain
