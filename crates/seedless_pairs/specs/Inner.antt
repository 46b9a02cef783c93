-- What contracts inside cite.
pub mod Pairs
