-- Laws of acceptance.
-- Ends: where the parts of a declaration end, by the ends of what they consist of.
pub mod Ends
