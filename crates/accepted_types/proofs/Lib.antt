-- Laws of accepted types.
-- Accepted: an accepted type by the words that stand there, kind by kind.
-- Skipping: passing over a type by counting the types that are due.
pub mod Accepted
pub mod Skipping
