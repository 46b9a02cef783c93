pub mod Least
pub mod Looking
pub mod Sampling
pub mod Outcome
