-- Laws of the definitions.
pub mod Axes
pub mod Distances
