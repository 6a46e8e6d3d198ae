pub mod Table
pub mod Scans
