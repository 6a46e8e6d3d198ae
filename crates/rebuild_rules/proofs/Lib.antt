-- Laws of lists of rules: how deep types are, reading a list into a table, the links between rules, and the search by words.
pub mod Depths
pub mod Steps
pub mod Tables
pub mod Lists
pub mod Links
pub mod Nowhere
