-- What is found comes back, with where each face came from.
pub mod Slices
pub mod Traces
pub mod Delivered
pub mod Hanging
pub mod Claim
pub mod Room
