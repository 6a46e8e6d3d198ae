-- Laws of attributes: their texts from those of their parts.
pub mod Attributes
