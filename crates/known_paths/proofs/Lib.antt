-- Laws of paths, of where the parts of an accepted type stand, and of applications.
pub mod Paths
pub mod Children
pub mod Applying
pub mod Finding
pub mod Worded
