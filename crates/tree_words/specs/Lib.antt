pub mod Renamed
pub mod Encode
pub mod Tokens
pub mod Depths
pub mod Names
pub mod Places
pub mod Numbered
pub mod Runs
