-- The theorem over encodings, from the theorem over trees.
pub mod EqualText
