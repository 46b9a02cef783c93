-- What contracts inside cite.
pub mod Flat
