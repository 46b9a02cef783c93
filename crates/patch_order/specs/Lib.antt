-- What a reader must believe.
pub mod Ordering
pub mod Inner
