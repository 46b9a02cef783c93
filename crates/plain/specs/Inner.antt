-- What contracts inside cite, leaves first.
pub mod Laid
pub mod Bounds
pub mod Listed
