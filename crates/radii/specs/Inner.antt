-- What contracts inside cite.
pub mod Steps
