-- Laws of what the tests on a field's type ask, and of the text that follows from them.
pub mod Receivers
pub mod Texts
