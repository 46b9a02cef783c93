-- What a reader must believe.
pub mod Range
pub mod Inner
