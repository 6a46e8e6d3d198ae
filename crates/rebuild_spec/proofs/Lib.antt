-- Laws of replacement: by a head and the types below it, equal types, a list of rules as a map, mappings that leave all types alone, depths and names.
pub mod Nodes
pub mod Depths
pub mod Still
pub mod Equality
pub mod Examples
pub mod Strings
pub mod SameDepths
pub mod Mapping
pub mod Names
