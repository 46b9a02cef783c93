-- What contracts inside cite.
pub mod Boxes
