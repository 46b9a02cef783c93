pub mod Sifting
pub mod Ends
pub mod Halves
