-- The theorem: every claim holds.
pub mod MarkedCases
