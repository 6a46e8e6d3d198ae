-- Laws of the types in an accepted type, of going on to one of them, and of following wrappers.
pub mod TypesIn
pub mod Going
pub mod Expanding
