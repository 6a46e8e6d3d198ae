pub mod Pieces
pub mod Walks
pub mod Mapped
pub mod Numbered
