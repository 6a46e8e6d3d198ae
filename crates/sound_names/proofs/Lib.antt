-- Laws of words, of the words that are no names, and of names and sizes.
pub mod Names
