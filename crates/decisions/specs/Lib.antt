-- What a reader must believe, leaves first.
pub mod Decisions
pub mod Found
pub mod Inner
