-- What contracts inside cite.
pub mod Thin
