-- The laws that the proofs cite.
pub mod Ends
pub mod Reach
