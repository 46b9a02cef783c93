-- What contracts inside cite.
pub mod Settled
