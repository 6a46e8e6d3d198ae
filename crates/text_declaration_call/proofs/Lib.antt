-- Laws of the answer and the buffer, from the passes.
pub mod Filling
