-- What a reader must believe.
pub mod Radii
pub mod Inner
