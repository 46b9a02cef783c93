-- What a reader must believe, leaves first.
pub mod Format
pub mod Answers
pub mod Inner
