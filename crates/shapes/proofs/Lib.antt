-- Laws of an accepted type's parts, and of what is asked of it.
pub mod Wrappers
pub mod Pointers
pub mod Collections
pub mod Elements
pub mod Behind
pub mod Parts
pub mod Judging
pub mod Answers
pub mod SourceEnsures
pub mod Examples
