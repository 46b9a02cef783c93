-- What contracts inside cite.
pub mod Outcome
pub mod Squares
