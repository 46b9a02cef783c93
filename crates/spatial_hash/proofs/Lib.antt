-- The laws that the proofs cite, leaves first.
pub mod Sizes
pub mod Corners
pub mod Slots
pub mod Inside
pub mod Kept
pub mod Heads
pub mod Residues
pub mod Removing
pub mod Appending
pub mod Runs
pub mod Visiting
pub mod Gathering
pub mod Squares
pub mod Nearby
