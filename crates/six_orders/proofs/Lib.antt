-- Laws of the bounds, leaves first.
pub mod Positive
pub mod Angles
pub mod Aspects
pub mod Edges
pub mod Scores
