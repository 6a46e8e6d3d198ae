pub mod Bytes
pub mod Tree
pub mod ToString
pub mod Sound
pub mod Indent
pub mod Doc
pub mod Declaration
pub mod DeclarationToString
