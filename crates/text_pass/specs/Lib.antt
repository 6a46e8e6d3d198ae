pub mod Passes
pub mod Texts
