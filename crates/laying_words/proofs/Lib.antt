pub mod Sifting
pub mod Slices
pub mod Parts
