-- What contracts inside cite.
pub mod Enclosed
