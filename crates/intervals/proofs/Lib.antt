-- The laws that the proofs cite, leaves first.
pub mod Ends
pub mod Boxes
