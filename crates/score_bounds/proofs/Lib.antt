-- Laws of the bounds, leaves first.
pub mod Bounds
pub mod Aspect
