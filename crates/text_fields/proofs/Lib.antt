-- Laws of fields: their texts from those of their parts.
pub mod Fields
pub mod Turns
