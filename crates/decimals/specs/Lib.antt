-- What a reader must believe, leaves first.
pub mod Decimal
pub mod Nearest
pub mod Inner
