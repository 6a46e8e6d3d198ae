-- Laws of the text calls' answers and buffers.
pub mod Calls
