-- Laws of the calls that rebuild: a type and a declaration alike, words that come back unaltered, worked examples, and words that are read again.
pub mod Wholes
pub mod EachType
pub mod Unaltered
pub mod Examples
pub mod ReadBack
