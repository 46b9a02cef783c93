-- What contracts inside cite.
pub mod Looks
