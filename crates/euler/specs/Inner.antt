-- What contracts inside cite.
pub mod OutOfReach
