-- What contracts inside cite.
pub mod Following
