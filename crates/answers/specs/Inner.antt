-- What contracts inside cite.
pub mod Outcome
