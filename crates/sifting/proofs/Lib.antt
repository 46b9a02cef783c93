-- Laws of lists, of parts of a slice, and of the loop.
pub mod Parts
pub mod Sifting
