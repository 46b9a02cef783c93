-- What a reader must believe.
pub mod Refusals
pub mod Inner
