pub mod Wrote
pub mod Laid
