-- What a reader must believe, leaves first.
pub mod Reconstruct
pub mod Outcome
pub mod Unsplit
pub mod Inner
