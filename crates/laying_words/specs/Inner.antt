-- What contracts inside cite.
pub mod Words
