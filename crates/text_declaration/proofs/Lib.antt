-- Laws of declarations: their texts from those of their parts.
pub mod Declarations
