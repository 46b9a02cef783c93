-- What contracts inside cite.
pub mod Sift
