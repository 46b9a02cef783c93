-- What contracts inside cite.
pub mod Put
