-- What a reader must believe.
pub mod Found
pub mod Inner
