pub mod Shapes
pub mod Parts
pub mod Accepted
pub mod Initialization
