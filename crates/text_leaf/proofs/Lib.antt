-- Laws of plain types and of a path's text.
pub mod Paths
pub mod Plain
