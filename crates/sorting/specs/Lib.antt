-- What a reader must believe, leaves first.
pub mod Insertion
pub mod Sorted
pub mod Each
pub mod Inner
