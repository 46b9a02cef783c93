-- What contracts inside cite.
pub mod Ordering
