-- The laws that the proofs cite, leaves first.
pub mod Chains
pub mod Words
pub mod Ordering
pub mod Leaving
