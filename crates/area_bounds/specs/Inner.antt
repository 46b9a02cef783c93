-- What contracts inside cite.
pub mod AreaBound
