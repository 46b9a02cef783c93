-- What a reader must believe.
pub mod Settings
pub mod Inner
