-- What contracts inside cite.
pub mod Judged
