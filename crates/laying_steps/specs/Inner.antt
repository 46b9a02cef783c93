-- What contracts inside cite.
pub mod Work
