-- Laws of the type at initialization: the parts of a tree with name numbers, the pointer by its words, what changes, what the buffer holds, and words that are read again.
pub mod Parts
pub mod Changes
pub mod Pointers
pub mod Filling
pub mod Examples
pub mod Strings
pub mod ReadBack
