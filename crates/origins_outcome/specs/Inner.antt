-- What contracts inside cite.
pub mod Parts
