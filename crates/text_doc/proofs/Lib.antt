-- Laws of doc comments: runs of one byte, and the conversion step by step.
pub mod Runs
pub mod Steps
pub mod Splits
pub mod Laying
