-- Laws of files, and of what is printed for them.
pub mod Files
pub mod Printing
