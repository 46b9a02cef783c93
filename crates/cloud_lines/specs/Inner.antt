-- What contracts inside cite, leaves first.
pub mod Storing
pub mod Bare
