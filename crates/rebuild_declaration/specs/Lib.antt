pub mod Replacer
pub mod Laying
pub mod Calls
pub mod Steps
