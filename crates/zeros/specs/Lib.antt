-- What a reader must believe, leaves first.
pub mod Zeros
pub mod Quality
pub mod Call
