-- What contracts inside cite.
pub mod Indexed
