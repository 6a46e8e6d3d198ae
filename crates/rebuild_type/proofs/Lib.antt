-- Laws of words laid down in a buffer, of a type rebuilt on words, of what the caller's buffer holds, and of what is known behind a length.
pub mod Growing
pub mod Types
pub mod Calls
pub mod Results
