-- Laws of needles, leaves first.
pub mod Least
pub mod Floor
pub mod Opposite
pub mod Cosines
pub mod LeftOver
pub mod Table
pub mod Bound
pub mod Squares
