-- What contracts inside cite.
pub mod Cosine
