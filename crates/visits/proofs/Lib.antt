-- Laws of visit lists.
pub mod FoldLaws
pub mod VisitorLaws
pub mod Lists
pub mod Passes
pub mod Answers
pub mod Entering
pub mod Holding
pub mod Examples
