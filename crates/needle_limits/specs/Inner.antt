-- What contracts inside cite.
pub mod Needles
