-- Laws of ranges.
pub mod Halves
