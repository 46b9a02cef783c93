-- What contracts inside cite.
pub mod Minima
