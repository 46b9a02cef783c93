-- What a reader must believe.
pub mod Format
pub mod Inner
