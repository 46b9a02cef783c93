-- What a reader must believe.
pub mod Plain
pub mod Inner
