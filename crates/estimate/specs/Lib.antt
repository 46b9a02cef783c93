-- What a reader must believe.
pub mod Estimate
pub mod Inner
