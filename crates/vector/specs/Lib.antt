-- What a reader must believe.
pub mod Vector
pub mod Inner
