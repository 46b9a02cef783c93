-- What contracts inside cite.
pub mod Known
