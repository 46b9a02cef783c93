-- What contracts inside cite, leaves first.
pub mod Answers
pub mod Ready
