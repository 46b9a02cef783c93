pub mod Kept
pub mod Pivots
pub mod Looks
pub mod Runs
pub mod Radii
pub mod Claim
pub mod Marks
