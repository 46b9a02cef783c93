-- Laws of the definitions.
pub mod Chain
pub mod Limit
pub mod Edges
