-- What contracts inside cite.
pub mod Read
