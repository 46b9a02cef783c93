-- Laws of the limits, leaves first.
pub mod Chain
pub mod Arc
pub mod Angle
pub mod Limits
