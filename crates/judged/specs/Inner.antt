-- What contracts inside cite.
pub mod Triples
