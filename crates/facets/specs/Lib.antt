-- What a reader must believe, leaves first.
pub mod Format
pub mod Known
