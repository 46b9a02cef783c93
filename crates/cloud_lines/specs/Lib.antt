-- What a reader must believe, leaves first.
pub mod Format
pub mod Reading
pub mod Inner
