-- Laws of the part calls.
pub mod Spans
pub mod Examples
