-- What a reader must believe, leaves first.
pub mod Call
pub mod Outcome
pub mod Inner
