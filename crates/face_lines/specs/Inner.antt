-- What contracts inside cite.
pub mod Answers
