-- What contracts inside cite.
pub mod Refused
