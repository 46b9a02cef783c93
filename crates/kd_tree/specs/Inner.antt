-- What contracts inside cite.
pub mod Written
