-- What ties the amended call to the source's, leaves first, and examples.
pub mod Floats
pub mod Plain
pub mod Claim
pub mod Calls
pub mod Example
