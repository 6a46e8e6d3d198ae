-- Laws of accepted types by their words, and of what is written of them.
pub mod Laws
pub mod Rooms
pub mod Parts
pub mod Turns
