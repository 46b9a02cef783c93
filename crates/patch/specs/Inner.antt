-- What contracts inside cite, leaves first.
pub mod Invariant
pub mod Entries
