-- What a reader must believe, leaves first.
pub mod Plain
pub mod Reached
pub mod Inner
