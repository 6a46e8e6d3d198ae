-- Laws that tie trees to their words: a head and the types below it, runs of words, trees with other names, names in the table, and words that are read back.
pub mod Nodes
pub mod Runs
pub mod Spans
pub mod Renaming
pub mod Heads
pub mod Names
pub mod ReadBack
