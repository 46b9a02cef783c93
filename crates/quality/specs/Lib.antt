-- What a reader must believe.
pub mod Measures
pub mod Inner
