-- What a reader must believe, leaves first.
pub mod Scan
pub mod Parts
pub mod Least
