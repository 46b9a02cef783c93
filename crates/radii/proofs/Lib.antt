pub mod Distances
pub mod Summing
pub mod Densities
pub mod Spaced
pub mod Chosen
