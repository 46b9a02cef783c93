-- What contracts inside cite.
pub mod Slivers
