-- What a reader must believe, leaves first.
pub mod Lay
pub mod Frontier
pub mod Search
pub mod Shape
pub mod View
pub mod Fair
pub mod Inner
