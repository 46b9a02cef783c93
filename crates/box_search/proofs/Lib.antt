-- Laws of the definitions, leaves first.
pub mod Bounds
pub mod Halves
