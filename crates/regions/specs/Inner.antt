-- What contracts inside cite, leaves first.
pub mod Regions
pub mod Ordering
