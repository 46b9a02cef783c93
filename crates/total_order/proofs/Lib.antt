pub mod Order
pub mod Fine
pub mod Radii
pub mod Estimate
pub mod Alike
pub mod Example
