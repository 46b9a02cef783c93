-- What contracts inside cite.
pub mod Bounds
