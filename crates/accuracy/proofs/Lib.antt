-- What is exact, the chain of rounding errors, the theorem, and one pair of points computed, leaves first.
pub mod Exact
pub mod Chain
pub mod Claim
pub mod Example
