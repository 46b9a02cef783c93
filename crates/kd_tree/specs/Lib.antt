-- What a reader must believe, leaves first.
pub mod Boxes
pub mod Tree
pub mod Inner
