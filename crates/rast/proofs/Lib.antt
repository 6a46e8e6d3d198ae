-- What the definitions of the tree, its text and its soundness are held to: a sound type's text is the text of no other.
pub mod BytesLaws
pub mod Parser
pub mod ParserLaws
pub mod Unique
pub mod BareLaws
pub mod SourceEquations
pub mod Examples
pub mod DocEquation
pub mod DocBranches
pub mod DocExamples
pub mod DeclarationExamples
