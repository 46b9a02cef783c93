pub mod Below
pub mod Extents
