-- Laws of the comparison of two runs of words, which is the comparison of two trees.
pub mod Words
pub mod Steps
pub mod Looks
pub mod Trees
