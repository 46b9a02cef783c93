pub mod Cases
pub mod Tree
pub mod Counted
pub mod Farthest
