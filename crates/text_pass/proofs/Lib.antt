-- Laws of passes: one text behind the other, and the texts of things from those of their parts.
pub mod Passes
pub mod Splits
pub mod Later
pub mod Lists
pub mod OutOfOrder
pub mod Leaves
