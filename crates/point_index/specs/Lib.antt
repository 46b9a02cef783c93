-- What a reader must believe.
pub mod Index
pub mod Inner
