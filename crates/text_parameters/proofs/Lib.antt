-- Laws of parameters: their texts from those of their parts.
pub mod Parameters
