-- Laws of the tables, of reading, and of heads.
pub mod Tables
pub mod Names
pub mod Primitives
pub mod Answers
pub mod Reading
pub mod Heads
pub mod Inside
pub mod HeadWords
pub mod Types
pub mod TypeKinds
