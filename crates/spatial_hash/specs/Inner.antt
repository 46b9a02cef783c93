-- What contracts inside cite, leaves first.
pub mod Buckets
pub mod Near
