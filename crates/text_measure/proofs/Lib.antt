-- Laws of lengths, of the names of a path, of the texts of types, of the pass, and of what it gives.
pub mod PathNames
pub mod Lengths
pub mod Texts
pub mod Rests
pub mod Steps
pub mod Scans
pub mod Measured
