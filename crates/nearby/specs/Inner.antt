-- What contracts inside cite, leaves first.
pub mod Ready
pub mod Narrow
