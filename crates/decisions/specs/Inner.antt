-- What contracts inside cite.
pub mod Completes
