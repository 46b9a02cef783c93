-- What contracts inside cite.
pub mod Placing
