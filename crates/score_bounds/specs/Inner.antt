-- What contracts inside cite.
pub mod Bound
