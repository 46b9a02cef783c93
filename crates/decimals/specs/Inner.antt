-- What contracts inside cite.
pub mod Ready
