-- Laws of the pieces of a declaration laid down one behind the other, and of the walk that rebuilds them.
pub mod Pieces
pub mod Steps
pub mod Strings
