pub mod EqualText
