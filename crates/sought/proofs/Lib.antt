pub mod Seeds
pub mod Pivots
