-- What contracts inside cite.
pub mod SliversWithin
