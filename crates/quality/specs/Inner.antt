-- What contracts inside cite.
pub mod Shape
