-- What contracts inside cite.
pub mod Over
