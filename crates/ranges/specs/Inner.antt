-- What contracts inside cite.
pub mod Number
