pub mod Sides
pub mod Keeping
