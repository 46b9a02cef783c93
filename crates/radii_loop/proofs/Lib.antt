pub mod Steps
pub mod Radii
