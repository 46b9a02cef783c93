-- What a reader must believe.
pub mod Grid
pub mod Inner
