-- What a reader must believe, leaves first.
pub mod Checks
pub mod Tallies
pub mod Inner
