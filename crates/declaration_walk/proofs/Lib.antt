-- Laws of a declaration's pieces and of the walk over them, and of words that are read back.
pub mod Scans
pub mod Ahead
pub mod Steps
pub mod NextSteps
pub mod Openings
pub mod OpeningRuns
pub mod Passes
pub mod Behind
pub mod RenamedReading
pub mod WithTypes
pub mod Encoded
pub mod EachPiece
pub mod ReadBack
