pub mod Labels
pub mod Receivers
pub mod Texts
